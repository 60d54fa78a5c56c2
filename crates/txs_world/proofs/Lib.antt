mod CallsLemmas
pub mod Actions
pub mod Answering
pub mod Kept
pub mod Mailing
pub mod Merging
pub mod Serves
pub mod Standing
pub mod Storing
pub mod Versions
pub mod Zipping
