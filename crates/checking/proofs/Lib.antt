-- Laws of accepted images, and of counting.
pub mod Checked
pub mod Encoded
pub mod Counting
pub mod Turns
