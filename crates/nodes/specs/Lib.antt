pub mod Numbers
pub mod Meaning
pub mod Decoded
pub mod SameEdges
