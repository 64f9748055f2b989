pub mod MeetLaws
pub mod Holding
pub mod Passing
