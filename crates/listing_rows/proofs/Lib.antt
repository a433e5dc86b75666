-- Laws of the rows that are taken, one by one, by a run, and by one run after another.
pub mod Taking
pub mod Running
pub mod Many
pub mod Piecewise
