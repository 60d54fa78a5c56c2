pub mod Ending
pub mod Fitting
