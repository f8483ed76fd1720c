pub mod Forms
pub mod Examples
