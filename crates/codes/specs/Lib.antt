-- An answer as one number, how it is read, and what it says.
pub mod Codes
pub mod Readings
pub mod Says
