pub mod Encoding
pub mod Means
pub mod CleanLaws
