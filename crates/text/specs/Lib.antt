-- Texts in ASCII, numbers in decimal, and how a text is put into a lent buffer.
pub mod Ascii
pub mod Decimal
pub mod Numbers
pub mod Put
