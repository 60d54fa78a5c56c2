pub mod CellForm
pub mod CodeForm
pub mod Errors
pub mod Format
pub mod InstrForm
pub mod Names
pub mod ValueForm
