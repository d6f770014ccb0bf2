pub mod Passes
pub mod Standing
pub mod Worked
