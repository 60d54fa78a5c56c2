pub mod Holding
pub mod Keeping
pub mod Tasks
pub mod Validators
