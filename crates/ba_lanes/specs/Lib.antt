pub mod Lanes
pub mod Legal
pub mod Headline
pub mod Serving
pub mod Working
pub mod Ideal
