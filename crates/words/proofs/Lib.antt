pub mod Codec
pub mod Journals
pub mod Readings
pub mod Returns
pub mod Wholes
pub mod WordRows
pub mod Writings
