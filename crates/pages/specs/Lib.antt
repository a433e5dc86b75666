-- What the pages program prints, and examples of it as text.
pub mod Printed
pub mod Examples
