-- Terms of the contracts between the functions that read and take rows.
pub mod Reading
