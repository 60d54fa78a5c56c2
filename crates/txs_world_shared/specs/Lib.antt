pub mod Apart
pub mod Kept
pub mod Laws
pub mod Parts
pub mod SharedState
