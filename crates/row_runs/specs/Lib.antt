-- Rows before the first that has a bad byte, and what a run takes of them.
pub mod Rows
pub mod Taking
