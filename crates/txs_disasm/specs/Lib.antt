pub mod Listing
pub mod Sent
