pub mod Frames
pub mod Words
pub mod Tight
pub mod Moments
pub mod Faith
pub mod Blindness
pub mod Whole
