pub mod Sources
pub mod Answers
pub mod Named
pub mod Tables
pub mod Units
pub mod Views
pub mod Declarations
