-- What is printed for rows, and terms of the contracts between the functions that take them.
pub mod Rows
pub mod Taken
