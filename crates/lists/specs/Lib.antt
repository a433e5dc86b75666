-- Lists of net numbers, and what passes by them leave.
pub mod Lists
