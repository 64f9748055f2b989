pub mod Numbered
pub mod Ordered
pub mod Placing
pub mod AllPlaces
pub mod Limits
pub mod FirstNumber
pub mod FaultOrder
