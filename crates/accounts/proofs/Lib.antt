pub mod Opened
pub mod Posts
pub mod Stated
