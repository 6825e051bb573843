pub mod Bits
pub mod Registers
pub mod Addresses
