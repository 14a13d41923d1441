use Rattle.std.proofs.Common.{List, map, take}
use Rattle.ar_base.specs.Lists.{Stands}
use Rattle.ar_base.specs.Numbers.{NameId}
use Rattle.ar_base.specs.declared.places.Place.{Place}
use Rattle.hierarchy.specs.Models.{RootedModel}
use Rattle.hierarchy.specs.Units.{UnitPath}
use Rattle.unit_walks.specs.Settling.{AreOutcomes}
use Rattle.unit_rules.specs.Naming.{AddsNames}
use Rattle.unit_rules.proofs.naming.add_all.Given as goal

-- the names up to here were looked up
abbrev pub invariant-loop-name : goal.invariant-loop-name
invariant-loop-name l = (m : RootedModel) (units : List UnitPath) (u : UnitPath) → AreOutcomes m units l.walks
    → Stands units l.unit.n u
    → AddsNames m units u l.fn.entries.items (map (λ (n : NameId × Place). n.0.n) (take l.name-index l.names))
    l.entries.items
