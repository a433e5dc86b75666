-- Laws of the gate rules and of tables.
pub mod EachCode
pub mod Laws
pub mod Meaning
pub mod Onto
pub mod Entries
