pub mod Doing
pub mod SoFar
