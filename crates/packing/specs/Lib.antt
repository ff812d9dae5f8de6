pub mod Pack
pub mod Steps
pub mod Run
pub mod Paper
