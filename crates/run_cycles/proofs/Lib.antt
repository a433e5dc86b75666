-- Laws of a cycle whose nets are put and settled.
pub mod Cycling
pub mod PlainRuns
