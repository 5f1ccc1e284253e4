pub mod Visit
pub mod Keys
pub mod Arriving
pub mod States
pub mod Settling
pub mod Visiting
pub mod Unmoved
