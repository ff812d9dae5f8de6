-- What the proofs of the functions, and of callers, cite.
pub mod Rows
pub mod Runs
