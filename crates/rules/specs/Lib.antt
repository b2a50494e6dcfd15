pub mod Limits
pub mod Outcome
pub mod Faults
pub mod Refusals
