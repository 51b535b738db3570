pub mod Evidence
pub mod Said
