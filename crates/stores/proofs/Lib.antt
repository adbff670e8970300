pub mod Counted
pub mod Parts
pub mod Bits
pub mod CopyLaws
pub mod GroupLaws
pub mod Blank
