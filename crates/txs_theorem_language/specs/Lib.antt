pub mod Faults
pub mod FirstForm
pub mod Levels
pub mod Logic
pub mod Renaming
pub mod Standing
pub mod TextOrder
