pub mod Heights
pub mod Bounds
pub mod Searches
pub mod TurnLaws
pub mod SumLaws
pub mod SignLaws
pub mod RatioAnswerLaws
pub mod OneRatio
