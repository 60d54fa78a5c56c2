pub mod Laws
pub mod Order
pub mod Serial
pub mod Taken
pub mod Whole
