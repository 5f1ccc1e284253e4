pub mod Codes
pub mod Tables
pub mod Lookups
pub mod Places
pub mod States
pub mod Partners
