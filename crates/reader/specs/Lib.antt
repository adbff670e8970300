pub mod Parts
pub mod Reader
pub mod Answer
pub mod Fields
