-- Laws of the doubled netlist.
pub mod Positions
pub mod Sums
