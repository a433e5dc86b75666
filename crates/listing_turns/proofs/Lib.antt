-- Laws of one turn, in which rows are read and taken.
pub mod Reading
