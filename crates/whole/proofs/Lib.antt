pub mod Euclid
pub mod Ints
pub mod Limiting
pub mod Raising
pub mod Searches
pub mod Totals
pub mod Passing
