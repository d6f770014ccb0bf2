pub mod Bookings
pub mod Sums
