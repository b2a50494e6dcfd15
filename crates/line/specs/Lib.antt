pub mod Lines
pub mod Conditions
pub mod Views
