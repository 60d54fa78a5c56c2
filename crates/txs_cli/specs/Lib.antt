pub mod CodeLines
pub mod CodeStream
pub mod Recorded
pub mod Runner
pub mod Runs
pub mod Source
pub mod Telling
