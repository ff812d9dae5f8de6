pub mod Padded
pub mod Steps
pub mod Run
