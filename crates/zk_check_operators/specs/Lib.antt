pub mod Views
pub mod Rows
pub mod Verbs
pub mod Attributes
pub mod Gather
pub mod Literals
pub mod Gathering
pub mod Values
