-- Laws of cycles and of calls, and of the passes and walks by which code works them out.
pub mod Deciding
pub mod Selections
pub mod Walks
pub mod Cycles
pub mod States
pub mod Calls
pub mod Filling
pub mod Runs
pub mod Ruling
pub mod Alike
