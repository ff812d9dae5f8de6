pub mod Inputs
pub mod Lines
pub mod Columns
pub mod Turning
pub mod Runs
pub mod Rows
