pub mod Lists
pub mod NearLaws
pub mod Nearby
pub mod Parts
pub mod Shows
pub mod Tables
pub mod Texts
