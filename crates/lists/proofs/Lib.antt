-- Laws of lists of net numbers.
pub mod Placing
pub mod Parting
