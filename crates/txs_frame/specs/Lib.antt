pub mod Frame
pub mod Kept
pub mod Laws
pub mod Phase
