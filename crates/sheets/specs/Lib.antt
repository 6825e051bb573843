pub mod Pages
pub mod Checks
pub mod Contents
pub mod Bounds
pub mod Held
pub mod Laws
