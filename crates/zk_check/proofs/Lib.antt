mod KindRows
pub mod SoonerLaws
pub mod GivenLaws
pub mod PartLaws
pub mod ProgramLaws
pub mod PushLaws
pub mod DeclLaws
pub mod ListingLaws
pub mod CheckLaws
