mod Growing
mod Held
mod LineSteps
mod Parts
mod Plain
mod Safety
mod Signs
mod TwoLines
pub mod Decided
pub mod Escapes
pub mod Holding
pub mod Keeps
pub mod Last
pub mod Meanings
pub mod Numbers
pub mod OneAnswer
pub mod Pieces
pub mod Rising
pub mod Rows
pub mod Running
pub mod Runs
pub mod Splitting
pub mod Steps
pub mod Sugar
pub mod Texts
pub mod Trees
