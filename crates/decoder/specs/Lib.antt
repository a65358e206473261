pub mod Places
pub mod Peeling
pub mod Listing
pub mod Rows
pub mod Elimination
pub mod Candidates
pub mod Corrections
