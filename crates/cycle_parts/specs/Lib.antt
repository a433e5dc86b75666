-- When a net can be worked out.
pub mod Readable
pub mod Starting
