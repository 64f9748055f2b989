mod BadBlocks
mod Finding
