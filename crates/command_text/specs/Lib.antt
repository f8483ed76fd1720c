pub mod Dump
pub mod Examples
pub mod Grammar
pub mod Refusals
pub mod Script
pub mod Texts
pub mod Units
pub mod Words
