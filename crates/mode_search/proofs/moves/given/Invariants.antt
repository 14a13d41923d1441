use Rattle.std.proofs.Common.{[], drop}
use Rattle.mode_search.specs.Adding.{SomeHas}
use Rattle.mode_search.specs.Moves.{HasAt, GivesValue}
use Rattle.gts_core.proofs.Added.{Remains}
use Rattle.mode_search.proofs.moves.given.Given as goal

abbrev pub invariant-loop-assign : goal.invariant-loop-assign
invariant-loop-assign l = Remains (λ v. SomeHas (GivesValue (HasAt l.at.variable.n l.at.values.now) l.at.variable.n)
    (drop l.assign-index l.action) v) (λ v. SomeHas (GivesValue (HasAt l.at.variable.n l.at.values.now) l.at.variable.n)
    l.action v) [] l.values.items
