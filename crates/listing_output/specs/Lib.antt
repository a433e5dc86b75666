-- What is printed, line by line.
pub mod Printed
