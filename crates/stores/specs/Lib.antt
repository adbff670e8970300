pub mod Cells
pub mod Notes
pub mod Groups
pub mod Copies
pub mod Bars
pub mod Diagnostics
