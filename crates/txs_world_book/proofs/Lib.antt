pub mod Atoms
pub mod Counting
pub mod Growth
pub mod Lists
pub mod Older
pub mod Outcomes
pub mod Sizes
pub mod Standing
