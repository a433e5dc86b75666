-- The doubled netlist, and where its groups begin.
pub mod Doubled
pub mod Starts
