pub mod Whole
pub mod Singly
