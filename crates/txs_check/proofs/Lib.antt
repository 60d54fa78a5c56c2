pub mod Accepted
pub mod Callees
pub mod InOrder
pub mod InTurn
pub mod Laws
pub mod Lists
pub mod Order
pub mod Rows
pub mod Same
pub mod Steps
pub mod TrueRefusals
mod Together
mod Walking
