pub mod Answer
pub mod Turns
