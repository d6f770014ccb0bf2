pub mod Bills
pub mod Figures
