pub mod Header
pub mod Elements
pub mod Packet
pub mod Paper
pub mod Laws
