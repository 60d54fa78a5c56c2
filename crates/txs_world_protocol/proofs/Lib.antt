pub mod AskLemmas
pub mod Comparing
