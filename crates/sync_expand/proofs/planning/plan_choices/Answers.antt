use Rattle.std.proofs.Common.{◌≡◌, ◌≤◌, ℕ, Bool, List, map, subst, arith}
use Rattle.std.proofs.lemmas.List.{take_all}
use Rattle.ar_meaning.specs.Numbered.{Joins}
use Rattle.gts_core.specs.Bound.{event_part_of}
use Rattle.sync_expand.specs.Planning.{AddsPlannedWays}
use Rattle.sync_expand.specs.Counts.{choice_count}
use Rattle.sync_expand.specs.Plans.{choices_by}
use Rattle.sync_expand.proofs.Choosing.{choices_length}
use Rattle.sync_expand.proofs.Adding.{adds_choice, choices_room}
use Rattle.sync_expand.proofs.planning.plan_choices.Goals as goal

pub choice-requires-clause-total : goal.choice-requires-clause-total
choice-requires-clause-total c =
    let n = rw c.deref.ensures.value at c.choice_count-total.ensures in
    let r = c.requires.room.room in
    omega (arith, n, r)

pub push-requires : goal.push-requires
push-requires c =
    let n = rw c.deref.ensures.value at c.choice_count-total.ensures in
    let counts = c.args.numbering.now.counts.items in
    choices_room counts c.args.parts.now c.args.event.n c.args.first c.loop-place.place c.args.plan.now.items
    c.loop-place.plan.items c.requires.room (omega (arith, n, c.loop-place-test.true)) c.loop-place.invariant

pub loop-place-preserved : goal.loop-place-preserved
loop-place-preserved c = adds_choice c.args.event.n c.args.first c.loop-place.place _ _ _ _ _ c.requires.room.low
    c.in_ok-chosen.ensures c.loop-place.invariant c.in_ok-push.ensures

pub returns : goal.returns
returns c =
    let counts = c.args.numbering.now.counts.items in
    let n = rw c.deref.ensures.value at c.choice_count-total.ensures in
    let l = choices_length counts (map event_part_of c.args.parts.now) in
    let r = c.requires.room.room in
    let e = take_all c.loop-place.place (choices_by counts (map event_part_of c.args.parts.now))
    (omega (arith, n, l, r, c.loop-place-test.false)) in
    subst (λ (cs : List (List (Bool × ℕ))). AddsPlannedWays c.args.event.n c.args.first (map Joins cs) c.args.plan.now.items
    c.loop-place.plan.items) e c.loop-place.invariant
