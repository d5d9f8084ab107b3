pub mod AddressLaws
pub mod EscapeLaws
pub mod Injective
mod Rows
pub mod Seconds
