pub mod Agreeing
pub mod FirstLine
pub mod Choosing
pub mod Columns
pub mod Texts
pub mod Cutting
