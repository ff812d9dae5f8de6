-- Each call's theorem, and what it stands on.
pub mod Law
pub mod Answers
pub mod Calls
pub mod SmallCalls
pub mod Exports
