use Rattle.std.proofs.Common.{◌≡◌, ◌<◌, ◌≤◌, List, ℕ, length, get_or, subst, sym}
use Rattle.gts_core.specs.declared.system.Assign.{Assign}
use Rattle.flow_propagate.specs.Named.{AreNamed}
use Rattle.flow_propagate.proofs.ReaderPairs.{named_start, named_more, named_all, readers_sorted}
use Rattle.flow_propagate.proofs.readers.readers.Goals as goal

pub loop-place-init : goal.loop-place-init
loop-place-init c = subst (λ (z : List (ℕ × ℕ)). AreNamed c.args.parts.now 0 z) (sym c.new-pairs.ensures.items)
    (named_start c.args.parts.now)

pub loop-place-preserved : goal.loop-place-preserved
loop-place-preserved c =
    let items = c.deref-assign-items.ensures.value in
    let below = subst (λ (z : List Assign). c.loop-place.place < length z) items c.loop-place-test.true in
    let is = subst (λ (z : List Assign). c.assign-item.result ≡ get_or z c.loop-place.place c.assign-item.result) items
    c.assign-item.is in
    named_more c.args.parts.now c.loop-place.place c.assign-item.result c.loop-place.pairs.items
    c.add_readers.new.found.items below is c.loop-place.invariant c.in_ok-add_readers.ensures

pub returns : goal.returns
returns c = readers_sorted c.args.parts.now c.loop-place.pairs.items c.ascending.result.items
    (named_all c.args.parts.now c.loop-place.place c.loop-place.pairs.items
    (subst (λ (z : List Assign). length z ≤ c.loop-place.place) c.deref-assign-items.ensures.value
    c.loop-place-test.false) c.loop-place.invariant) c.ascending.ensures
