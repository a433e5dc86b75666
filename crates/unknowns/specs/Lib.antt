-- Unknown bits: their codes, the rule by filling, its tables, and what a code says of a byte.
pub mod Filling
pub mod Covering
pub mod StaticExactness
pub mod Tables
pub mod Widths
