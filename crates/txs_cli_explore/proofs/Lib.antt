pub mod Lines
pub mod Listed
pub mod Blocks
pub mod LastLine
pub mod Ran
pub mod All
pub mod Scripts
