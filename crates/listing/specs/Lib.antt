pub mod Input
pub mod Row
pub mod Paper
pub mod Listing
pub mod Steps
pub mod Run
