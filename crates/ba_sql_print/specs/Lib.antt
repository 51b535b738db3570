pub mod Printed
pub mod Words
pub mod Spelling
pub mod ReadBack
