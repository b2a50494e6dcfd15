pub mod Limits
pub mod Lines
pub mod Words
pub mod Numbers
pub mod Names
pub mod Reading
