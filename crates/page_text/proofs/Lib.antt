-- Laws of signs, blanks, lines and pages.
pub mod Blanks
pub mod Signs
pub mod LineParts
pub mod PageParts
pub mod Pagewise
pub mod Chars
pub mod Places
pub mod LineChars
