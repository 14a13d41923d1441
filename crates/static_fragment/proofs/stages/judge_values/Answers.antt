use Rattle.std.proofs.Common.{◌≡◌, Option, Some, None, Err, Ok, refl, ap, subst}
use Rattle.ar_firing.specs.Rules.{AtVariable}
use Rattle.gts_core.specs.declared.system.GtsParts.{GtsParts}
use Rattle.mode_search.specs.Wide.{IsFirstWide}
use Rattle.mode_search.specs.declared.searches.Wide.{Wide}
use Rattle.mode_search.specs.declared.searches.Wide.TheVariants as wide
use Rattle.static_fragment.specs.declared.faults.FragmentFault.TheVariants.{Outside}
use Rattle.static_fragment.specs.declared.faults.Spot.TheVariants as spot
use Rattle.static_fragment.proofs.Judging.{values_judged}
use Rattle.static_fragment.proofs.stages.judge_values.Goals as goal

found : (p : GtsParts) (o : Option Wide) (w v : Wide) → IsFirstWide p o → o ≡ Some w → w ≡ v → IsFirstWide p (Some v)
found p o w v h e is = subst (λ (z : Wide). IsFirstWide p (Some z)) is (subst (IsFirstWide p) e h)

pub returns-in-Flow : goal.returns-in-Flow
returns-in-Flow c = λ order system dropped h.
    let p = c.args.parts.now in
    let v = wide.Flow c.in-Flow.n in
    values_judged system dropped order p c.requires h (Some v)
    (found p _ c.in-Some.wide v c.in_ok-wide.ensures c.in-Some.is c.in-Flow.is)
    (Err (Outside 7 (spot.Variable c.new.result))) (refl, ap AtVariable c.new.ensures)

pub returns-in-Observer : goal.returns-in-Observer
returns-in-Observer c = λ order system dropped h.
    let p = c.args.parts.now in
    let v = wide.Observer c.in-Observer.n in
    values_judged system dropped order p c.requires h (Some v)
    (found p _ c.in-Some.wide v c.in_ok-wide.ensures c.in-Some.is c.in-Observer.is)
    (Err (Outside 7 (spot.Observer c.in-Observer.n))) (refl, refl)

pub returns-in_default : goal.returns-in_default
returns-in_default c = λ order system dropped h.
    values_judged system dropped order c.args.parts.now c.requires h None
    (subst (IsFirstWide c.args.parts.now) c.in_default.is c.in_ok-wide.ensures) (Ok tt) tt
