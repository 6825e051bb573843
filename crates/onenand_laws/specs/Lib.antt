pub mod Frames
pub mod Observer
pub mod Promise
