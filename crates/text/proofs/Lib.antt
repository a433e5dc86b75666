-- Laws of buffers, of numbers in decimal, and of texts that are put one behind the other.
pub mod Buffers
pub mod Decimal
pub mod Numbers
pub mod Putting
