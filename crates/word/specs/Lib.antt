-- What the word code is and promises, in the paper's order ..
pub mod Setting
pub mod Figures
pub mod Map
pub mod Word
pub mod Codeword
pub mod Search
pub mod Code
pub mod Answers
pub mod Clean
pub mod Promises
-- .. and the laws by which it is met and read
pub mod Refusals
pub mod Met
pub mod Means
pub mod Distance
pub mod Completion
pub mod Encoding
pub mod Looking
pub mod Solution
pub mod Correcting
