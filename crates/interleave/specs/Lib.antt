pub mod Numbers
pub mod Block
pub mod Rows
pub mod Slots
pub mod Line
pub mod Setting
pub mod Promises
pub mod Calls
