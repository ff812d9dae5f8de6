pub mod Unpack
pub mod Paper
pub mod Steps
pub mod Run
