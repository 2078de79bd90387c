pub mod Closed
pub mod Pairs
pub mod Turning
pub mod WholeRuns
pub mod RunOfWeight
pub mod WorkPlan
pub mod WalkTerms
