pub mod TurnLaws
pub mod PlaceLaws
