-- What a net lists, when it is refused, and the limits of its operands.
pub mod Operands
pub mod NetCheck
pub mod Limits
