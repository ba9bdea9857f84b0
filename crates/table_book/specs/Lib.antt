pub mod Groups
pub mod Lists
