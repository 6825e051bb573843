pub mod Words
pub mod Orders
pub mod Texts
