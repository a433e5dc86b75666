-- Terms of the contract of `reason_of`.
pub mod Reasons
