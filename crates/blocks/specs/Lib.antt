pub mod Counting
pub mod Covering
pub mod Layout
pub mod Records
pub mod Tests
pub mod Views
