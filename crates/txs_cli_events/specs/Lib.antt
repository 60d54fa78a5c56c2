pub mod LongLines
pub mod Noted
pub mod Run
pub mod Shown
pub mod Staged
