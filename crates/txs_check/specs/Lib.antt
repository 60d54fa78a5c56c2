pub mod Errors
pub mod Faulty
pub mod Order
pub mod Refused
pub mod Rows
pub mod Signatures
pub mod Walked
