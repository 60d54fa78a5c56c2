pub mod Actor
pub mod Back
pub mod Callees
pub mod Settled
