-- What the proofs of the functions, and of callers, cite.
pub mod Rows
pub mod Fronts
pub mod Wires
pub mod Scans
pub mod Counts
pub mod Stores
pub mod Compares
pub mod Theorems
pub mod Records
