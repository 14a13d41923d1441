use Rattle.std.proofs.Common.{ℕ, List}
use Rattle.ar_base.specs.Lists.{Stands}
use Rattle.ar_base.specs.declared.places.Place.{Place}
use Rattle.ar_syntax.specs.declared.members.Part.{Part}
use Rattle.class_table.specs.Earliest.{IsEarliest, Until}
use Rattle.class_table.proofs.Looping.{AtItem}
use Rattle.hierarchy.specs.Models.{RootedModel}
use Rattle.hierarchy.specs.Units.{UnitPath}
use Rattle.hierarchy.specs.Tie.{IsTreeOf}
use Rattle.bind_names.specs.Breaking.{IsNoEvent}
use Rattle.bind_names.proofs.event_rules.no_event_in.Given as goal

abbrev pub invariant-loop-part : goal.invariant-loop-part
invariant-loop-part l = (m : RootedModel) (units : List UnitPath) (u : UnitPath) → IsTreeOf m units l.scopes.tree.now
    → Stands units l.unit.n u
    → IsEarliest (Until (AtItem l.parts (λ (j : ℕ) (p : Part) (q : Place). IsNoEvent m u p.event q)) l.part-index)
    l.found
