pub mod Passing
pub mod Laying
pub mod OneLasso
pub mod Fronts
