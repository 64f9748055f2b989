pub mod Marks
pub mod Reading
pub mod Ordered
pub mod StrictLanes
pub mod Tested
