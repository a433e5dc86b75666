-- What a refusal is, and when a lent slice is refused.
pub mod Refusals
