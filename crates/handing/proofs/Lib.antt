pub mod Lists
pub mod Wires
pub mod Across
pub mod Framing
pub mod Cursors
pub mod Turns
