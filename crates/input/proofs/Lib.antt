-- Laws of the bytes that are kept before the next read.
pub mod Keeping
