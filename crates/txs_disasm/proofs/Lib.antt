pub mod LineLemmas
pub mod ListingLemmas
pub mod SentLemmas
