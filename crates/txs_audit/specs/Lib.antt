pub mod Parted
pub mod Pieced
pub mod Started
