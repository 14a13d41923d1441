use Rattle.std.proofs.Common.{List, take, length, replicate, false}
use Rattle.hierarchy.specs.Models.{RootedModel}
use Rattle.hierarchy.specs.Units.{UnitPath}
use Rattle.hierarchy.specs.Listing.{events}
use Rattle.hierarchy.specs.Tie.{IsTreeOf}
use Rattle.source_meaning.specs.Systems.{IsHidden}
use Rattle.bind_names.specs.Hiding.{Marks}
use Rattle.bind_names.proofs.hiding.hidden_events.Given as goal

abbrev pub invariant-loop-place : goal.invariant-loop-place
invariant-loop-place l = (m : RootedModel) (units : List UnitPath) → IsTreeOf m units l.scopes.tree.now
    → Marks (events m units) (IsHidden m (take l.place units)) (replicate (length l.scopes.tree.now.events.items) false)
    l.marks.items
