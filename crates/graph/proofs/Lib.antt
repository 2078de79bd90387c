pub mod Found
pub mod OneKind
pub mod Turns
