pub mod PseudoHeader
pub mod Tcp
pub mod Udp
pub mod Views
