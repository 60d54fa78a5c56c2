pub mod CellLines
pub mod Fitting
pub mod JsonLines
pub mod ValueFacts
pub mod RefusalLines
