pub mod Halves
pub mod Leaf
