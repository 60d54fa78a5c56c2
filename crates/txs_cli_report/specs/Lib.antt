pub mod AgentLines
pub mod CellLines
pub mod EventLines
pub mod Explained
pub mod Lent
pub mod Lines
pub mod Plays
pub mod Told
