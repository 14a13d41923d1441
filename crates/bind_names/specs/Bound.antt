-- What it is that a declared event by numbers is an event of a tree.
use Rattle.std.specs.Prelude.{◌≡◌, ◌<◌, ◌^◌, Bool, true, List, map, length, Vec}
use Rattle.std.specs.Global.{Global}
use Rattle.ar_base.specs.Lists.{Stands, IsOneOf, Along}
use Rattle.ar_base.specs.Numbers.{VarId}
use Rattle.ar_base.specs.NumbersInside.{EventId}
use Rattle.ar_base.specs.declared.places.Place.{Place}
use Rattle.typed_expr.specs.declared.expr.Expr.{Expr}
use Rattle.typed_expr.specs.declared.expr.ValueKind.TheVariants.{Truth}
use Rattle.ar_meaning.specs.Systems.{Transition}
use Rattle.ar_meaning.specs.Expand.{EventDeclaration}
use Rattle.ar_meaning.specs.ExpandImageInside.{Member_renames}
use Rattle.gts_core.specs.Bound.{member_of}
use Rattle.gts_core.specs.declared.bound.Act.{Act, out-Act}
use Rattle.gts_core.specs.declared.bound.DeclaredEvent.{DeclaredEvent}
use Rattle.gts_core.specs.declared.bound.DeclaredWay.TheVariants.{Local, Sync}
use Rattle.hierarchy.specs.Models.{RootedModel}
use Rattle.hierarchy.specs.Units.{UnitPath, Thing}
use Rattle.hierarchy.specs.Listing.{variables, events, ways_declared}
use Rattle.hierarchy.specs.Paths.{thing_path}
use Rattle.hierarchy.specs.declared.tree.Tree.{Tree}
use Rattle.source_meaning.specs.Binding.{HasPlace}
use Rattle.source_meaning.specs.Systems.{IsEvent}
use Rattle.bind_names.specs.Typed.{IsTypedIn, IsSoundIn}

-- the event is sound over the variables, units and events of the tree
pub record IsSoundEvent (tree : Tree) (e : DeclaredEvent) : Type 0 where
  pub unit : e.unit.n < length tree.units.items
  pub few : length e.ways.items < 2 ^ 32
  pub guards : (guard : Expr VarId) (action : Act) → IsOneOf e.ways.items (Local guard action)
      → IsTypedIn tree guard Truth
  pub actions : (guard : Expr VarId) (action : Act) → IsOneOf e.ways.items (Local guard action)
      → IsSoundIn tree true (out-Act action)
  pub parts : (parts : Vec (Bool × EventId) Global) (at : Place) (part : Bool × EventId)
      → IsOneOf e.ways.items (Sync parts at)
      → IsOneOf parts.items part → part.1.n < length tree.events.items

-- the declared event is that of the tree, with numbers for things
pub record IsBoundEvent (m : RootedModel) (units : List UnitPath) (tree : Tree) (t : Thing) (e : DeclaredEvent) : Type
    0 where
  pub meaning : EventDeclaration (Transition Thing) Thing
  pub is : IsEvent m units t meaning
  pub unit : meaning.unit ≡ e.unit.n
  pub hidden : meaning.hidden ≡ e.hidden
  pub members : Along (Member_renames (λ x n. Stands (variables m units) n x) (λ x n. Stands (events m units) n x))
      meaning.members
      (map member_of e.ways.items)
  pub path : e.path ≡ thing_path m t
  pub places : Along HasPlace (ways_declared m t) e.ways.items
  pub sound : IsSoundEvent tree e
