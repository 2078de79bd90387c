pub mod Work
pub mod Conditions
pub mod BenchWorked
pub mod Writer
pub mod PrivatePromises
