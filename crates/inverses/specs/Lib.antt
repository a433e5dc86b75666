-- Nets with their inverses.
pub mod Inverses
