pub mod Header
pub mod Front
pub mod Records
pub mod Unit
pub mod Wire
pub mod Paper
pub mod Laws
