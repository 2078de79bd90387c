pub mod Bytes
pub mod Maps
pub mod Fields
pub mod Records
pub mod Questions
pub mod Decoded
pub mod Keys
