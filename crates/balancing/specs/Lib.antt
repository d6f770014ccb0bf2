pub mod Bands
pub mod Bills
pub mod Edges
pub mod Limits
pub mod Rules
pub mod Terms
pub mod Worked
pub mod Bounds
