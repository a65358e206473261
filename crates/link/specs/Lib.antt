pub mod Receiver
pub mod Masts
pub mod MastCopies
pub mod Replay
pub mod Promises
