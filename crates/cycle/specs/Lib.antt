-- Clock cycles, the state, the calls on them, their answers, and bytes that are codes.
pub mod Cycle
pub mod State
pub mod Calls
pub mod Answers
pub mod Codes
