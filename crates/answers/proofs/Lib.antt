pub mod Differences
pub mod Lines
pub mod Replies
pub mod Wholes
