pub mod Agree
pub mod Laws
pub mod Viewing
