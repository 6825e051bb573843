pub mod Ending
pub mod Load
