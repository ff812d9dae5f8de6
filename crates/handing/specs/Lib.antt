pub mod Finished
pub mod Handing
pub mod Inside
pub mod Paper
