pub mod Announced
pub mod Knows
pub mod Methods
pub mod Registrations
