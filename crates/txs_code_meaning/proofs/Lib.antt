pub mod Acts
pub mod Alike
mod FormAsks
pub mod Later
pub mod Once
pub mod Phases
mod Rows
