use Rattle.std.proofs.Common.{arith, ◌≡◌, ◌∷◌, [], ℕ, length, subst}
use Rattle.ar_meaning.specs.Systems.{Transition}
use Rattle.gts_core.specs.Bound.{member_of}
use Rattle.sync_expand.specs.Planning.{AddsPlannedWays}
use Rattle.sync_expand.specs.Plans.{bodies_by}
use Rattle.sync_expand.proofs.Placed.{item_stands}
use Rattle.sync_expand.proofs.Adding.{event_start, event_next, event_end, event_room}
use Rattle.sync_expand.proofs.planning.plan_event.Goals as goal

pub loop-place-init : goal.loop-place-init
loop-place-init c = event_start _ _ _ _ _

pub plan_way-requires-clause-room : goal.plan_way-requires-clause-room
plan_way-requires-clause-room c =
    let s = item_stands c.args.ways.now c.loop-place.place c.index-ways-place.result (omega arith)
    c.index-ways-place.is in
    let first : c.len-first.result ≡ length c.args.plan.now.items =
    omega (arith, c.args.plan.now.ok.0, c.len-first.ensures) in
    event_room c.args.numbering.now.counts.items c.args.ways.now c.args.event.n c.len-first.result c.loop-place.place
    c.index-ways-place.result c.args.plan.now.items c.loop-place.plan.items s c.requires.within first
    c.loop-place.invariant

pub loop-place-preserved : goal.loop-place-preserved
loop-place-preserved c =
    let s = item_stands c.args.ways.now c.loop-place.place c.index-ways-place.result (omega arith)
    c.index-ways-place.is in
    let first : c.len-first.result ≡ length c.args.plan.now.items =
    omega (arith, c.args.plan.now.ok.0, c.len-first.ensures) in
    event_next _ _ _ _ _ _ _ _ _ s (omega arith) c.loop-place.invariant
    (subst (λ (n : ℕ). AddsPlannedWays c.args.event.n n
    (bodies_by (λ (k : ℕ) (t : Transition ℕ). k) c.args.numbering.now.counts.items c.loop-place.place
    (member_of c.index-ways-place.result ∷ [])) c.loop-place.plan.items c.plan_way.new.plan.items) first
    c.in_ok-plan_way.ensures)

pub returns : goal.returns
returns c = event_end _ _ _ _ c.loop-place.place _ _ (omega arith) c.loop-place.invariant
