-- Laws of verdicts and lines by output bytes.
pub mod Verdicts
pub mod Lines
