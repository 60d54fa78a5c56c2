pub mod Fold
pub mod Inline
pub mod Items
pub mod Keeps
pub mod Observed
pub mod Optimised
