pub mod Packet
pub mod Joining
pub mod Call
pub mod Inside
