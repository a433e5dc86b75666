-- What the cycles of a run take, and by which rules they go.
pub mod Taking
