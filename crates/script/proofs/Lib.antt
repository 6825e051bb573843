pub mod Ticking
pub mod Playing
pub mod Lengths
pub mod Going
