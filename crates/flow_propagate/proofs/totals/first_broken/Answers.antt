use Rattle.std.proofs.Common.{◌≡◌, ◌<◌, ◌≤◌, ℕ, List, length, get_or, subst}
use Rattle.ar_base.proofs.Standing.{stands_item}
use Rattle.ar_base.proofs.Items.{before_more}
use Rattle.gts_core.specs.declared.system.Assign.{Assign}
use Rattle.flow_propagate.specs.Totals.{Breaks}
use Rattle.flow_propagate.proofs.Totalling.{no_items}
use Rattle.flow_propagate.proofs.totals.first_broken.Goals as goal

pub returns-then-is_broken : goal.returns-then-is_broken
returns-then-is_broken c =
    let items = c.deref-assign-items.ensures.value in
    let below = subst (λ (z : List Assign). c.loop-place.place < length z) items c.loop-place-test.true in
    let is = subst (λ (z : List Assign). c.assign-item.result ≡ get_or z c.loop-place.place c.assign-item.result) items
    c.assign-item.is in
    record {
      item = c.assign-item.result;
      stands = stands_item c.args.parts.now.assigns.items c.loop-place.place c.assign-item.result below is;
      has =
          c.if-is_broken.ensures;
      before = c.loop-place.invariant;
    }

pub loop-place-preserved : goal.loop-place-preserved
loop-place-preserved c =
    let items = c.deref-assign-items.ensures.value in
    let below = subst (λ (z : List Assign). c.loop-place.place < length z) items c.loop-place-test.true in
    let is = subst (λ (z : List Assign). c.assign-item.result ≡ get_or z c.loop-place.place c.assign-item.result) items
    c.assign-item.is in
    before_more c.args.parts.now.assigns.items c.loop-place.place c.assign-item.result
    (λ (k : ℕ) (x : Assign). Breaks c.args.total.now x) c.loop-place.invariant
    (stands_item c.args.parts.now.assigns.items c.loop-place.place c.assign-item.result below is) c.if-is_broken.ensures

pub returns : goal.returns
returns c = no_items c.args.parts.now.assigns.items c.loop-place.place (Breaks c.args.total.now)
    (subst (λ (z : List Assign). length z ≤ c.loop-place.place) c.deref-assign-items.ensures.value
    c.loop-place-test.false) c.loop-place.invariant
