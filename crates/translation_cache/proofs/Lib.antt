pub mod Lists
pub mod Caches
