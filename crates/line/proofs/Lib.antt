pub mod RowLists
pub mod Fitness
pub mod Grouping
