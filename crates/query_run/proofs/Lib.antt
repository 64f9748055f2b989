mod Sink
pub mod Nothing
mod Explaining
mod Refusing
mod Surveyed
mod PlainEnding
mod GatheredEnding
mod GroupsEnding
mod SortedEnding
mod Asking
pub mod Accepted
mod SomeNamed
mod CheckedFiles
mod OneChecked
