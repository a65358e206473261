pub mod Head
pub mod Lines
pub mod Spoken
pub mod Promises
