pub mod Shapes
pub mod Templates
pub mod Found
pub mod Standing
