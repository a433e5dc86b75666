-- Terms of the contracts between the functions that print the cycles of a run.
pub mod ByOutputs
