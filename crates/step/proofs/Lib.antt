pub mod SheetLaws
pub mod AskedLaws
pub mod UnitLaws
pub mod StepNumberLaws
