-- The laws of the payloads.
pub mod Rows
pub mod New
pub mod Lengths
pub mod Writing
pub mod Singly
