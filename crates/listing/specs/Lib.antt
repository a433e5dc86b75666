-- The whole listing, and pages of it as text.
pub mod Listing
pub mod Pages
