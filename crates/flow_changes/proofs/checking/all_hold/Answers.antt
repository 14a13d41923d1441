use Rattle.std.proofs.Common.{◌≡◌, ◌<◌, ℕ, List, inl, inr, length, get_or, rules, sym, subst, take_all}
use Rattle.ar_base.specs.Lists.{Stands, IsOneOf}
use Rattle.ar_base.proofs.Standing.{stands_get, stands_item, stands_one, one_here}
use Rattle.ar_meaning.specs.Flows.{IsBrokenAssign}
use Rattle.gts_core.specs.View.{net_of, assign_of}
use Rattle.gts_core.specs.declared.system.Assign.{Assign}
use Rattle.flow_changes.proofs.Picks.{one_taken, within_at}
use Rattle.flow_changes.proofs.checking.all_hold.Goals as goal

pub offset_bounds-order-place : goal.offset_bounds-order-place
offset_bounds-order-place c =
    let h : get_or c.args.list.now c.loop-place.place-index 0 < length c.args.order.now =
    within_at c.args.list.now c.args.order.now c.requires.within c.loop-place.place-index
    c.loop-place-test.true in
    search (rules, h)

pub bounds-order-place : goal.bounds-order-place
bounds-order-place c = within_at c.args.list.now c.args.order.now c.requires.within c.loop-place.place-index
    c.loop-place-test.true

pub index-requires : goal.index-requires
index-requires c =
    let h = within_at c.args.list.now c.args.order.now c.requires.within c.loop-place.place-index
    c.loop-place-test.true in
    let k = within_at c.args.order.now c.args.parts.now.assigns.items c.requires.below
    (get_or c.args.list.now c.loop-place.place-index 0) h in
    search (rules, k)

pub is_broken-requires-clause-one : goal.is_broken-requires-clause-one
is_broken-requires-clause-one c =
    let q = get_or c.args.list.now c.loop-place.place-index 0 in
    let h = within_at c.args.list.now c.args.order.now c.requires.within c.loop-place.place-index
    c.loop-place-test.true in
    let k = within_at c.args.order.now c.args.parts.now.assigns.items c.requires.below q h in
    record {
      place = get_or c.args.order.now q 0;
      stands = stands_item c.args.parts.now.assigns.items (get_or c.args.order.now q 0) c.index.result.now k
          c.index.ensures;
    }

pub loop-place-preserved : goal.loop-place-preserved
loop-place-preserved c = λ q n a o sq sa b.
    let p = c.args.parts.now in
    let i = c.loop-place.place-index in
    let list = c.args.list.now in
    let order = c.args.order.now in
    let here = get_or list i 0 in
    let h : here < length order = within_at list order c.requires.within i c.loop-place-test.true in
    let k : get_or order here 0 < length p.assigns.items = within_at order p.assigns.items c.requires.below here h in
    elim (one_taken list i here q (stands_get list i 0 c.loop-place-test.true) o) [
      | inl d ↦ c.loop-place.invariant q n a d sq sa b
      | inr e ↦ (
          let same : get_or order here 0 ≡ n =
          stands_one order here (get_or order here 0) n (stands_get order here 0 h)
          (subst (λ (z : ℕ). Stands order z n) (sym e) sq) in
          let there : Stands p.assigns.items (get_or order here 0) c.index.result.now =
          stands_item p.assigns.items (get_or order here 0) c.index.result.now k c.index.ensures in
          let one : a ≡ c.index.result.now =
          stands_one p.assigns.items n a c.index.result.now sa
          (subst (λ (z : ℕ). Stands p.assigns.items z c.index.result.now) same there) in
          c.if-is_broken.ensures
          (subst (λ (z : Assign). IsBrokenAssign (net_of p) c.args.values.now (assign_of z)) one b))
    ]

pub returns : goal.returns
returns c = λ q n a o. c.loop-place.invariant q n a
    (subst (λ (z : List ℕ). IsOneOf z q)
    (sym (take_all c.loop-place.place-index c.args.list.now c.loop-place-test.false)) o)

pub returns-then-is_broken : goal.returns-then-is_broken
returns-then-is_broken c = λ all.
    let p = c.args.parts.now in
    let i = c.loop-place.place-index in
    let list = c.args.list.now in
    let order = c.args.order.now in
    let here = get_or list i 0 in
    let h : here < length order = within_at list order c.requires.within i c.loop-place-test.true in
    let n = get_or order here 0 in
    let k : n < length p.assigns.items = within_at order p.assigns.items c.requires.below here h in
    all here n c.index.result.now (one_here list i here (stands_get list i 0 c.loop-place-test.true))
    (stands_get order here 0 h) (stands_item p.assigns.items n c.index.result.now k c.index.ensures)
    c.if-is_broken.ensures
