pub mod Buffers
pub mod Explorable
pub mod Index
pub mod Lists
pub mod Answer
