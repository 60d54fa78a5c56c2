pub mod ActionTold
pub mod Told
