-- What the proofs of the functions, and of callers, cite.
pub mod Rows
pub mod Reading
pub mod Laws
pub mod Order
pub mod Padded
pub mod Standing
pub mod Walking
pub mod Carried
