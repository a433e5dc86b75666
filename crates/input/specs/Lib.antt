-- The whole rows of some bytes, and the unfinished row behind them.
pub mod Rest
