pub mod Rows
pub mod Bits
pub mod Sequences
pub mod Calls
pub mod Laws
pub mod Headers
