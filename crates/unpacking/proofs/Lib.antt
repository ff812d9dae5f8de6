-- What the proofs of the functions, and of callers, cite.
pub mod Steps
pub mod LossesLine
pub mod Turning
pub mod Packets
pub mod Runs
pub mod Rows
