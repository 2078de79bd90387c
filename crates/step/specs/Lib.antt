pub mod Step
pub mod Conditions
