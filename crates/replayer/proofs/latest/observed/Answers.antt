use Rattle.std.proofs.Common.{◌≡◌, ◌<◌, ◌≤◌, List, ℕ, length, get_or, rules, subst, sym}
use Rattle.std.proofs.lemmas.List.Sorted.{IsNonDecreasingBy-from_sort_by_key}
use Rattle.ar_base.specs.Lists.{Stands}
use Rattle.ar_base.proofs.Standing.{stands_get}
use Rattle.gts_core.specs.declared.system.Observer.{Observer}
use Rattle.replayer.specs.Observing.{AreObserved}
use Rattle.replayer.proofs.ObservingLemmas.{observed_start, observed_more, observed_all, observed_sorted}
use Rattle.replayer.proofs.latest.observed.Goals as goal

pub loop-place-init : goal.loop-place-init
loop-place-init c = subst (λ (z : List (ℕ × ℕ)). AreObserved c.args.parts.now 0 z) (sym c.new-pairs.ensures.items)
    (observed_start c.args.parts.now)

pub loop-place-preserved : goal.loop-place-preserved
loop-place-preserved c =
    let items = c.deref-observer-items.ensures.value in
    let i = c.loop-place.place in
    let o = c.observer-item.result in
    let below = subst (λ (z : List Observer). i < length z) items c.loop-place-test.true in
    let is = subst (λ (z : List Observer). o ≡ get_or z i o) items c.observer-item.is in
    let st : Stands c.args.parts.now.observers.items i o =
    subst (λ (z : Observer). Stands c.args.parts.now.observers.items i z) (sym is)
    (stands_get c.args.parts.now.observers.items i o below) in
    observed_more c.args.parts.now i o c.loop-place.pairs.items c.add_named_pairs.new.found.items st
    c.loop-place.invariant c.in_ok-add_named_pairs.ensures

pub returns : goal.returns
returns c =
    let all = observed_all c.args.parts.now c.loop-place.place c.loop-place.pairs.items
    (subst (λ (z : List Observer). length z ≤ c.loop-place.place) c.deref-observer-items.ensures.value
    c.loop-place-test.false) c.loop-place.invariant in
    observed_sorted c.args.parts.now c.loop-place.pairs.items c.sort_unstable_by_key.new.self.items
    all c.sort_unstable_by_key.ensures.permutation
    (IsNonDecreasingBy-from_sort_by_key (λ (q : ℕ × ℕ). q.0) _ c.sort_unstable_by_key.ensures.sorted
    (λ a r q k. search rules))
