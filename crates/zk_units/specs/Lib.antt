pub mod Cuts
pub mod HttpTurns
pub mod Protocols
pub mod Standing
pub mod Units
pub mod Unread
