mod Interleaved
pub mod Alone
pub mod Answered
pub mod Failing
pub mod FormStream
pub mod Loading
pub mod Ran
pub mod Recording
pub mod Weaker
