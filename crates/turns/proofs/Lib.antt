-- What the proofs of the functions, and of callers, cite.
pub mod Digits
pub mod Lines
pub mod Orders
pub mod Turning
pub mod Rows
