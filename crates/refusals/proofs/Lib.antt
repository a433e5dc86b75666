-- Laws of refusals that are not given, and of the bytes of a lent slice.
pub mod Refusals
pub mod BadBytes
