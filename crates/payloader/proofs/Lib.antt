-- What the proofs of the functions, and of callers, cite.
pub mod Parts
pub mod Bodies
pub mod Packets
pub mod Totals
pub mod Starts
pub mod Runs
pub mod Calls
