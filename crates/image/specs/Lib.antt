pub mod Layout
pub mod Checks
pub mod Contents
pub mod Bounds
pub mod Held
