pub mod Places
pub mod Numbers
pub mod Options
pub mod Commands
pub mod NamedFiles
pub mod PackWords
pub mod MakeWords
