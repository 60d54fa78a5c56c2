pub mod Asked
pub mod Explained
