mod EachFlag
mod Adding
mod Sorting
