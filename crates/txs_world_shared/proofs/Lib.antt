pub mod Apart
pub mod Asking
pub mod Opening
pub mod Placing
pub mod Growing
pub mod Serving
pub mod There
