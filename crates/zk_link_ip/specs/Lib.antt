pub mod Frame
pub mod Ip4
pub mod Views
