pub mod Answering
pub mod Making
