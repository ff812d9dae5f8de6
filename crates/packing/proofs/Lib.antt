-- What the proofs of the functions, and of callers, cite.
pub mod Rows
pub mod Reading
pub mod Recording
pub mod Units
pub mod Turning
pub mod Runs
