-- Laws that the crates above share.
pub mod Refusals
pub mod Tests
pub mod Bits
pub mod Lists
pub mod Fronts
pub mod Storing
pub mod Records
pub mod Words
pub mod BigEndian
pub mod Streams
