pub mod Lowest
pub mod Parts
