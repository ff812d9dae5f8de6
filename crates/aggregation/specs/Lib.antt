pub mod New
pub mod Header
pub mod Inside
