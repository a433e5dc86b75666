-- The groups of document 01.
pub mod Groups
