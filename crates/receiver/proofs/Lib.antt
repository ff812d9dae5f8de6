pub mod Rows
pub mod Opens
pub mod Takes
pub mod Outcomes
pub mod Laws
pub mod Behind
pub mod Sizes
pub mod Counts
