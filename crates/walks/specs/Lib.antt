pub mod Walk
pub mod Weight
pub mod Cycles
pub mod Form
pub mod Lasso
pub mod Tests
pub mod SearchNumbers
pub mod SearchTerms
