pub mod Text
pub mod Orders
pub mod Loop
pub mod Stores
