pub mod Lines
pub mod Shapes
pub mod Grammar
pub mod Parts
pub mod Laws
