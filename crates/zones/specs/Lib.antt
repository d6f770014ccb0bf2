pub mod Ledgers
pub mod Sources
pub mod Unmade
pub mod Worked
