-- What the proofs of the functions, and of callers, cite.
pub mod Reading
pub mod Writing
pub mod Theorems
pub mod Refused
pub mod Padded
pub mod Rows
