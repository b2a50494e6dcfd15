pub mod Searching
pub mod Spreading
