-- Laws of nets that stand with their inverses.
pub mod Places
