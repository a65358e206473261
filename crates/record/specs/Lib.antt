pub mod Order
pub mod Memory
pub mod Record
pub mod Promises
