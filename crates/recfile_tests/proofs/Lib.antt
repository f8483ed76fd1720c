pub mod Fetched
pub mod OnePage
