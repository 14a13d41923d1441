mod Counted
mod Flattened
mod Meant
mod OneSource
pub mod Passing
mod Synchronised
pub mod Alike
pub mod Containment
mod Firsts
pub mod Forced
mod Inherited
pub mod Inside
mod Items
mod Laid
pub mod Leading
pub mod Made
mod Mains
pub mod Named
pub mod Nesting
mod Numbered
mod OneTree
pub mod UnitsPassing
pub mod Ruled
mod Seen
pub mod Settled
mod Sizes
pub mod Turned
pub mod Unfolding
pub mod Universe
pub mod Walking
mod Acted
mod Breaches
mod Carried
mod Forms
mod Itself
mod Levels
mod BindingsMeant
pub mod OneBinding
mod OneDeclarations
pub mod OneText
mod PathKinds
mod BindingsRuled
mod Tested
mod Wrong
