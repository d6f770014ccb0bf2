pub mod Firsts
pub mod Kept
