pub mod Numbers
pub mod Cross
pub mod Promises
pub mod Checks
pub mod Codes
pub mod Positions
pub mod Frames
pub mod Calls
