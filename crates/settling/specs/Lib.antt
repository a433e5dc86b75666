-- Nets that have the bytes which their rules give them.
pub mod Settling
