mod Rows
mod PlaceLaws
mod TableRows
pub mod JoinLaws
pub mod TurnLaws
pub mod ValueLaws
