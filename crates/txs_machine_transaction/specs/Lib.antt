pub mod Asks
pub mod Effect
pub mod Kept
pub mod Roles
pub mod Transaction
