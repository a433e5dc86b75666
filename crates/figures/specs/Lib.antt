-- The figures of the doubled netlist, and the table by which they are counted.
pub mod Figures
pub mod Answers
pub mod Tables
