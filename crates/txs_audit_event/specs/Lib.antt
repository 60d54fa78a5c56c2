pub mod Asking
pub mod Given
pub mod Lines
pub mod Meant
pub mod Transactions
pub mod Truth
