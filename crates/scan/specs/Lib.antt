pub mod Low
pub mod Classes
pub mod Parts
pub mod Lines
pub mod Keys
pub mod FieldLine
