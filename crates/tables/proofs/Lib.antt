pub mod Accounts
pub mod Changes
