pub mod Text
pub mod Put
pub mod Page
pub mod Pieces
