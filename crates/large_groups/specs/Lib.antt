-- Room for a group.
pub mod Room
