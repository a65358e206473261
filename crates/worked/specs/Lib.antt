pub mod Gives
pub mod Table
pub mod Limits
pub mod Words
pub mod Far
pub mod Slots
pub mod Judged
pub mod Late
