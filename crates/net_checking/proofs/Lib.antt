-- Laws of nets that pass.
pub mod Passes
pub mod Below
