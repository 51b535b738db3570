pub mod Order
pub mod Dues
pub mod Settling
