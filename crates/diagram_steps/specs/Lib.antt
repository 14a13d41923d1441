pub mod Joints
pub mod Order
pub mod Putting
pub mod Trees
