-- The pages of a run's outputs.
pub mod Pages
pub mod Columns
