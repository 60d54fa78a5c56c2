pub mod SameLemmas
pub mod WrittenLemmas
