pub mod ExportedPlan
pub mod ExportedWork
