-- Laws of the outputs of a line and of the length of lines, and the examples of lines.
pub mod Outputs
pub mod Lengths
pub mod Fitting
pub mod Examples
