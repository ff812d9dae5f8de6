-- The statements that no crate below names, chapter by chapter.
pub mod SizeFields
pub mod Obus
pub mod Plans
pub mod Headers
pub mod Payloads
pub mod Writing
pub mod Elements
pub mod Trains
pub mod Receiving
pub mod Deliveries
pub mod Programs
pub mod Answers
pub mod Border
