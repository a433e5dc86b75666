-- The pages of rows, and what one turn leaves.
pub mod PagesOf
pub mod Turns
