pub mod ActedForms
pub mod Becoming
pub mod FullForms
pub mod Gathering
pub mod InstructionsShrinking
pub mod KindsFound
pub mod MisnamedForms
pub mod MistypedForms
pub mod OperandLists
pub mod PartForms
pub mod RightForms
pub mod RuleForms
pub mod Shrinking
pub mod SomeOperands
pub mod TwoKinds
mod Pairs
