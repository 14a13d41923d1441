pub mod TableThere
pub mod OneTable
