pub mod Faults
pub mod Placed
pub mod CodedQuery
pub mod Accepted
pub mod Checks
