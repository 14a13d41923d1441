pub mod Models
pub mod ModelsInside
pub mod Names
