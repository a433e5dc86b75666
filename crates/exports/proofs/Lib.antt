-- What the theorems say of the calls that are exported.
pub mod Held
pub mod HeldDoubling
pub mod HeldRuns
pub mod HeldCounts
pub mod HeldExact
pub mod HeldBefore
pub mod HeldStatic
pub mod HeldPages
