pub mod Parts
pub mod Products
pub mod Machine
pub mod Reduction
pub mod Unique
pub mod Fractions
pub mod Pigeonhole
pub mod Lists
