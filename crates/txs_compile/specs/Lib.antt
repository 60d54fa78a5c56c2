pub mod Compiled
pub mod Law
pub mod Optimised
pub mod ReadForms
pub mod ReadProgram
