pub mod Onward
pub mod Bodies
pub mod Trace
pub mod History
pub mod Sparing
pub mod Laws
