-- What the nets of a group show.
mod GroupBytes
pub mod Groups
