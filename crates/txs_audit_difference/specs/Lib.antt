pub mod Difference
pub mod Left
pub mod Pieces
pub mod Truth
pub mod Walked
