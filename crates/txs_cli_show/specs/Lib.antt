pub mod Json
pub mod Picture
pub mod Shown
