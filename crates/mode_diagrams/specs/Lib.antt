pub mod Agreement
pub mod Costs
pub mod Kept
pub mod Lacking
pub mod Numbers
pub mod Sets
pub mod Trees
