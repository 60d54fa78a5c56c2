pub mod Agents
pub mod Answered
pub mod Crossing
pub mod Ended
pub mod Mail
pub mod Opening
