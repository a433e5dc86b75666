-- Laws of the first bad byte, of rows before the first bad one, of rows in two parts, and of the run that takes rows.
pub mod FirstBad
pub mod GoodRows
pub mod Parting
pub mod Answering
