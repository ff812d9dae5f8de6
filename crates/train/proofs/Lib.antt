-- What the proofs of the functions, and of callers, cite.
pub mod Rows
pub mod Fields
pub mod Reading
pub mod Stepping
pub mod Written
pub mod Cut
pub mod Versions
