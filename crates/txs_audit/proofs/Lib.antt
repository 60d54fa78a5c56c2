pub mod Answering
pub mod Counting
pub mod Crossing
pub mod Ordering
pub mod Parting
pub mod Piecewise
