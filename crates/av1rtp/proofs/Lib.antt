-- Laws of the words in which answers cross.
pub mod Laws
