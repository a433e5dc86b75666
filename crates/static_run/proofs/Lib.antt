-- What the static calls are where they are accepted and where they are refused, and what they take.
pub mod StaticRefused
