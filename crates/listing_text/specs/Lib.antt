-- The lines of the listing, and examples of them as text.
pub mod Lines
pub mod Examples
