pub mod Moves
pub mod Combs
pub mod Doubles
pub mod Factors
