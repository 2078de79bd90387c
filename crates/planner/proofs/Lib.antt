pub mod PickedLaws
pub mod SumLaws
pub mod LassoLaws
pub mod AcceptLaws
pub mod GraphLaws
pub mod SheetLaws
pub mod SteppedLasso
