pub mod Payload
pub mod Call
pub mod Inside
