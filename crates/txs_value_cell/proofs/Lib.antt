pub mod AgentsLemmas
pub mod Crossing
