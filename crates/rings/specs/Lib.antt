pub mod Rings
pub mod Delay
pub mod Run
pub mod Branch
