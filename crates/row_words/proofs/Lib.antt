pub mod Colons
pub mod Gathering
pub mod Digits
