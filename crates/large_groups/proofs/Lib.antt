-- Groups that are written net after net.
pub mod NetAfterNet
