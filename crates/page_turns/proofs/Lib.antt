-- Laws of the pages of rows, and of what a turn puts into the text.
pub mod TextParts
pub mod RowsPrinted
pub mod Turning
pub mod PageByPage
