pub mod Splitting
pub mod Spelling
pub mod Gathering
pub mod Receiving
