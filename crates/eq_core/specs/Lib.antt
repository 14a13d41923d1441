pub mod Gates
pub mod Values
pub mod ValuesInside
pub mod Ordered
pub mod Views
pub mod Cones
pub mod Marks
