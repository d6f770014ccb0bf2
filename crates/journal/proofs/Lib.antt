pub mod Fits
pub mod Lengths
pub mod Loops
pub mod Near
pub mod Steps
pub mod Trips
