-- Laws of buffers of zeros, of all turns together, and of the whole listing, also as one text; and pages of it.
pub mod Buffers
pub mod Turns
pub mod AsText
pub mod Listings
pub mod Pages
