pub mod Bytes
pub mod Chunks
pub mod Cover
pub mod Fronts
pub mod Handing
pub mod Parts
pub mod Passing
