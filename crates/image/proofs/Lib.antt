-- Laws of lists related place by place, of pins, of the nets of an image, of images that are written, and of views.
pub mod Pairs
pub mod PinNets
pub mod Nets
pub mod Encoding
pub mod Written
