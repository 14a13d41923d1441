use Rattle.std.proofs.Common.{List, take}
use Rattle.ar_base.specs.Lists.{Stands, IsOneOf, Along}
use Rattle.ar_syntax.specs.declared.members.Part.{Part}
use Rattle.hierarchy.specs.Models.{RootedModel}
use Rattle.hierarchy.specs.Units.{UnitPath}
use Rattle.hierarchy.specs.Tie.{IsTreeOf}
use Rattle.hierarchy.specs.Walks.{is_event}
use Rattle.source_meaning.specs.Rules.{FindsNone}
use Rattle.bind_names.specs.Ways.{IsBoundPart}
use Rattle.bind_names.proofs.ways.parts_of.Given as goal

abbrev pub invariant-loop-part : goal.invariant-loop-part
invariant-loop-part l = (m : RootedModel) (units : List UnitPath) (u : UnitPath) → IsTreeOf m units l.scopes.tree.now
    → Stands units l.unit.n u
    → ((p : Part) → IsOneOf l.parts p → FindsNone m is_event u p.event → ⊥)
    → Along (IsBoundPart m units u) (take l.part-index l.parts) l.bound.items
