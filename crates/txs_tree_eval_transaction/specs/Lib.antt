pub mod Pasts
pub mod Views
pub mod Worked
