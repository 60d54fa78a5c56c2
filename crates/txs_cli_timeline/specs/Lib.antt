pub mod Appended
pub mod Entities
pub mod Escaped
