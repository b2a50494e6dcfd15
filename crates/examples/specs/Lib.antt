pub mod Nets
pub mod Evidence
pub mod Files
pub mod Table
