-- Laws of settling one net.
pub mod Gatewise
