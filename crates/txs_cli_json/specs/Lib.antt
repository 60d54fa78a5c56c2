pub mod Cells
pub mod Json
pub mod Members
pub mod ValueForm
