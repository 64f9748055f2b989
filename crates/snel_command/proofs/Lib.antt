mod Sink
mod Commands
mod Memory
mod Asked
mod Comes
mod PackedSo
mod MadeSo
mod LogQueried
