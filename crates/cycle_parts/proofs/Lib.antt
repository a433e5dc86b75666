-- Laws of the pass that works out all nets.
pub mod Reading
pub mod Walking
pub mod Starts
pub mod Counting
