pub mod Formed
pub mod Blank
pub mod Runs
pub mod Sizes
pub mod Trims
pub mod LineLaws
