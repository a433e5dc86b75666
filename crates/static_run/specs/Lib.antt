-- The static calls.
pub mod StaticCalls
