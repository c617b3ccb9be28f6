pub mod Requesting
pub mod Answering
pub mod Eventing
