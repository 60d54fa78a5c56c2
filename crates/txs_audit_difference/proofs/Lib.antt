pub mod Acting
pub mod Leaving
pub mod Named
pub mod Piecing
pub mod Tells
pub mod Truly
pub mod Walks
