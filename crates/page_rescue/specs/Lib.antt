pub mod Rescue
pub mod Examples
