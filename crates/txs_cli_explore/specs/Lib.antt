pub mod Changes
pub mod Explored
pub mod Outcomes
pub mod Laws
