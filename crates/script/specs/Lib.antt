pub mod Puts
pub mod Transcript
pub mod Laws
