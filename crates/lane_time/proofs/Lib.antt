pub mod FarSums
pub mod ShiftLanes
pub mod StartRange
pub mod TimeLanes
pub mod UnixLanes
pub mod Weeks
