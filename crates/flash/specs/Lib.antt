pub mod Geometry
pub mod Meaning
pub mod Runs
pub mod Refusals
pub mod Texts
