pub mod Holding
pub mod Rows
pub mod Worlds
pub mod Having
pub mod Keeping
pub mod Agreeing
pub mod Telling
pub mod Laws
