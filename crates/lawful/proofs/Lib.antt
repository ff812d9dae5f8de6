-- What holds of lawful trains, for the proofs above.
pub mod Reading
pub mod Trains
pub mod Rows
