-- How large the numbers of answers are, how they are read, and what they say.
pub mod Given
pub mod Small
pub mod Readings
pub mod Says
