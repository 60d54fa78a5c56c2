pub mod Evaluated
pub mod Events
pub mod Setting
pub mod Shapes
