pub mod ForFile
pub mod Text
