use Rattle.std.proofs.Common.{arith, ap, ◌∙◌, ℕ, List, map}
use borrow.Author.Count.{falls}
use Rattle.std.proofs.lemmas.List.{take_all}
use Rattle.ar_meaning.specs.Systems.{Transition}
use Rattle.ar_meaning.specs.Expand.{EventDeclaration}
use Rattle.ar_base.proofs.Standing.{one_here}
use Rattle.gts_core.specs.Bound.{declared_from}
use Rattle.sync_expand.specs.Plans.{planned_ways}
use Rattle.sync_expand.specs.Planned.{planned_of}
use Rattle.sync_expand.specs.declared.plans.WayPlan.{WayPlan}
use Rattle.sync_expand.proofs.Placed.{item_stands}
use Rattle.sync_expand.proofs.DeclaredLemmas.{declared_stands, declared_length}
use Rattle.sync_expand.proofs.Adding.{plan_next}
use Rattle.sync_expand.proofs.planning.plan.Goals as goal

pub loop-place-init : goal.loop-place-init
loop-place-init c = ap (λ (ws : List WayPlan). map planned_of ws) c.new-plan.ensures.items

pub overflow_cast-place : goal.overflow_cast-place
overflow_cast-place c =
    let h = c.loop-place-test.true in
    let few = c.requires.few in
    omega (arith, h, few)

pub plan_event-requires-clause-short : goal.plan_event-requires-clause-short
plan_event-requires-clause-short c =
    let s = item_stands c.args.events.now c.loop-place.place c.index-events-place.result c.loop-place-test.true
    c.index-events-place.is in
    rw c.deref.ensures.value (c.requires.short c.loop-place.place c.index-events-place.result s)

pub plan_event-requires-clause-numbered : goal.plan_event-requires-clause-numbered
plan_event-requires-clause-numbered c = c.requires.numbered

pub plan_event-requires-clause-within : goal.plan_event-requires-clause-within
plan_event-requires-clause-within c =
    let s = item_stands c.args.events.now c.loop-place.place c.index-events-place.result c.loop-place-test.true
    c.index-events-place.is in
    let d = declared_stands 0 c.args.events.now c.loop-place.place c.index-events-place.result s in
    rw c.deref.ensures.value (c.requires.within.few _ (one_here _ c.loop-place.place _ d))

pub loop-place-smaller : goal.loop-place-smaller
loop-place-smaller c = falls _ c.loop-place.place c.loop-place-test.true

pub loop-place-preserved : goal.loop-place-preserved
loop-place-preserved c =
    let s = item_stands c.args.events.now c.loop-place.place c.index-events-place.result c.loop-place-test.true
    c.index-events-place.is in
    let a = rw c.deref.ensures.value at c.in_ok-plan_event.ensures in
    plan_next c.args.numbering.now.counts.items c.args.events.now c.loop-place.place c.index-events-place.result _ _ _ s
    c.new-event.ensures c.loop-place.invariant a

pub returns : goal.returns
returns c =
    let l = declared_length 0 c.args.events.now in
    c.loop-place.invariant
    ∙ ap (λ (ds : List (EventDeclaration (Transition ℕ) ℕ)). planned_ways c.args.numbering.now.counts.items ds)
    (take_all c.loop-place.place (declared_from 0 c.args.events.now) (omega (arith, l)))
