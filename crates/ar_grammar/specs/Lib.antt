pub mod Instructions
pub mod InstructionsInside
pub mod Members
pub mod MembersInside
pub mod Items
pub mod Results
pub mod Texts
pub mod Parts
