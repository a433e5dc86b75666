-- Laws of the lines that are printed.
pub mod Printing
