pub mod Runs
pub mod Low
pub mod Room
pub mod Lines
pub mod Cheats
