pub mod Scales
pub mod Sums
pub mod Makes
pub mod Plains
