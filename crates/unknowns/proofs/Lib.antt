-- Laws of codes, of the rule by filling, and of its tables.
pub mod SixCodes
pub mod Covered
pub mod Exact
pub mod Known
pub mod Places
pub mod Outs
pub mod ByWidth
