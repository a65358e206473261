-- Laws that the proofs of this crate lean on.
mod Bounds
mod Step
mod Rows
