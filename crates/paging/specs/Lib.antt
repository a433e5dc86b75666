-- What the call answers, and the code's answer read as that.
pub mod Paging
pub mod Answers
