-- The kinds of nets, the gate rules, their table, and the relations of net bytes that the claims are stated with.
pub mod Kinds
pub mod Rules
pub mod Table
pub mod Relations
pub mod Meaning
