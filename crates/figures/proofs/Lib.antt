-- Laws of the figures: the table of kinds, and counting by it.
pub mod Rows
pub mod Raising
pub mod Refusing
