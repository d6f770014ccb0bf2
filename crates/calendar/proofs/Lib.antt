pub mod Digits
pub mod Firsts
pub mod Found
pub mod Guess
