pub mod Frames
pub mod Laws
pub mod Owns
pub mod Phases
pub mod Phasing
pub mod Places
pub mod Turns
