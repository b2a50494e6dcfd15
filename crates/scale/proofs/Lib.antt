pub mod Multiples
pub mod Remainders
pub mod PlainSums
