pub mod Hashed
pub mod Keys
pub mod Lent
pub mod Objects
pub mod Plain
pub mod Slots
