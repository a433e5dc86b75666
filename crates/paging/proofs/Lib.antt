-- Laws of the call.
pub mod PageCalls
