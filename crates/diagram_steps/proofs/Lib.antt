pub mod Folding
pub mod Growing
pub mod PutIn
pub mod TreeOrder
