pub mod Acted
pub mod Evidence
pub mod Transacted
