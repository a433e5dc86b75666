-- What an image means, its pins and the numbers of its nets, its view, what its writers leave, and images that others compute with.
pub mod Image
pub mod Pins
pub mod Places
pub mod View
pub mod Writing
pub mod Examples
