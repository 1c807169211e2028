-- Laws of the script as a whole.
pub mod Script
