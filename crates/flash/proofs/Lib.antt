pub mod Bits
pub mod Runs
pub mod Meanings
