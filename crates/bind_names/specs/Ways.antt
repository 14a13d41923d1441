-- What it is that transitions and synchronisations by numbers are members of a unit.
use Rattle.std.specs.Prelude.{◌≡◌, ◌<◌, Bool, true, List, [], ◌∷◌, ◌++◌, length}
use Rattle.ar_base.specs.Lists.{Stands, IsOneOf}
use Rattle.ar_base.specs.NumbersInside.{EventId}
use Rattle.ar_syntax.specs.declared.members.Part.{Part}
use Rattle.typed_expr.specs.declared.expr.ValueKind.TheVariants.{Truth}
use Rattle.ar_meaning.specs.Systems.{Transition}
use Rattle.ar_meaning.specs.Expand.{Member}
use Rattle.ar_meaning.specs.ExpandImageInside.{Member_renames}
use Rattle.gts_core.specs.Bound.{member_of}
use Rattle.gts_core.specs.declared.bound.Act.{out-Act}
use Rattle.gts_core.specs.declared.bound.DeclaredWay.{DeclaredWay}
use Rattle.gts_core.specs.declared.bound.DeclaredWay.TheVariants.{Local, Sync}
use Rattle.class_table.specs.Declaring.{MemberForm}
use Rattle.hierarchy.specs.Models.{RootedModel}
use Rattle.hierarchy.specs.Units.{UnitPath, Thing}
use Rattle.hierarchy.specs.Listing.{forms_at, variables, events}
use Rattle.hierarchy.specs.declared.tree.Tree.{Tree}
use Rattle.source_meaning.specs.Binding.{HasPlace}
use Rattle.source_meaning.specs.Systems.{IsMember, IsPart}
use Rattle.bind_names.specs.Typed.{IsTypedIn, IsSoundIn}

-- the bound part has the mark of the written one, and the number of the event that it names
pub record IsBoundPart (m : RootedModel) (units : List UnitPath) (u : UnitPath) (part : Part)
    (p : Bool × EventId) : Type 0 where
  pub event : Thing
  pub is : IsPart m u part (p.0, event)
  pub number : Stands (events m units) p.1.n event

-- the bound part of the written one was put behind the others
pub record AddsPart (m : RootedModel) (units : List UnitPath) (u : UnitPath) (part : Part)
    (old new : List (Bool × EventId)) : Type 0 where
  pub added : Bool × EventId
  pub is : IsBoundPart m units u part added
  pub behind : new ≡ old ++ added ∷ []

-- the way is sound over the variables and events of the tree
abbrev pub IsSoundWay : Tree → DeclaredWay → Type 0
IsSoundWay tree (Local guard action) = IsTypedIn tree guard Truth × IsSoundIn tree true (out-Act action)
IsSoundWay tree (Sync parts at) = (part : Bool × EventId) → IsOneOf parts.items part
    → part.1.n < length tree.events.items

-- the bound way is the member of the unit u, with numbers for things
pub record IsBoundWay (m : RootedModel) (units : List UnitPath) (tree : Tree) (u : UnitPath) (f : MemberForm)
    (w : DeclaredWay) : Type 0 where
  pub meaning : Member (Transition Thing) Thing
  pub is : IsMember m u f meaning
  pub numbers : Member_renames (λ x n. Stands (variables m units) n x) (λ x n. Stands (events m units) n x) meaning
      (member_of w)
  pub place : HasPlace f w
  pub sound : IsSoundWay tree w

-- each of these is a member of the unit u
abbrev pub AreMembersOfUnit : RootedModel → UnitPath → List MemberForm → Type 0
AreMembersOfUnit m u forms = (f : MemberForm) → IsOneOf forms f → IsOneOf (forms_at m u) f
