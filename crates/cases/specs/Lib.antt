pub mod Chips
pub mod Texts
