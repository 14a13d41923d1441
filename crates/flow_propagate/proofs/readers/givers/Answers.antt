use Rattle.std.proofs.Common.{◌≡◌, ◌<◌, ◌≤◌, List, ℕ, length, get_or, subst, sym}
use Rattle.gts_core.specs.declared.system.Assign.{Assign}
use Rattle.flow_propagate.specs.Named.{AreTargets}
use Rattle.flow_propagate.proofs.ReaderPairs.{targets_start, targets_more, targets_all, givers_sorted}
use Rattle.flow_propagate.proofs.readers.givers.Goals as goal

pub loop-place-init : goal.loop-place-init
loop-place-init c = subst (λ (z : List (ℕ × ℕ)). AreTargets c.args.parts.now 0 z) (sym c.new-pairs.ensures.items)
    (targets_start c.args.parts.now)

pub loop-place-preserved : goal.loop-place-preserved
loop-place-preserved c =
    let items = c.deref-assign-items.ensures.value in
    let below = subst (λ (z : List Assign). c.loop-place.place < length z) items c.loop-place-test.true in
    let is = subst (λ (z : List Assign). c.assign-item.result ≡ get_or z c.loop-place.place c.assign-item.result) items
    c.assign-item.is in
    targets_more c.args.parts.now c.loop-place.place c.assign-item.result c.loop-place.pairs.items c.push.new.self.items
    below is c.loop-place.invariant c.in_ok-push.ensures.items

pub returns : goal.returns
returns c = givers_sorted c.args.parts.now c.loop-place.pairs.items c.ascending.result.items
    (targets_all c.args.parts.now c.loop-place.place c.loop-place.pairs.items
    (subst (λ (z : List Assign). length z ≤ c.loop-place.place) c.deref-assign-items.ensures.value
    c.loop-place-test.false) c.loop-place.invariant) c.ascending.ensures
