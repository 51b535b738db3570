pub mod Appended
pub mod Names
pub mod Object
pub mod Printed
pub mod Said
pub mod Verdicts
pub mod Audits
