-- When an image is refused, and counts of its nets.
pub mod Check
pub mod Counts
