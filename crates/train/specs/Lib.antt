pub mod Train
pub mod Paper
pub mod Laws
