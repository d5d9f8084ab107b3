pub mod Fault
pub mod Items
pub mod Numerals
pub mod Signs
pub mod Strings
pub mod TokenForms
pub mod Tokens
pub mod Words
