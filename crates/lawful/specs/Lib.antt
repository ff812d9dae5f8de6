pub mod Train
pub mod Payload
pub mod Lawful
