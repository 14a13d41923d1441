use Rattle.std.proofs.Common.{◌≡◌, ◌<◌, ◌≤◌, ℕ, List, length, get_or, subst, arith}
use Rattle.gts_core.specs.declared.system.Assign.{Assign}
use Rattle.ar_base.proofs.Standing.{stands_item}
use Rattle.mode_search.specs.Events.{IsLeastNumber}
use Rattle.mode_search.specs.Wide.{IsWideFlow}
use Rattle.mode_search.proofs.Assigning.{flows_start, flows_more}
use Rattle.mode_search.proofs.searches.least_flow.Goals as goal

pub loop-assign-init : goal.loop-assign-init
loop-assign-init c = flows_start c.args.parts.now

pub loop-assign-preserved : goal.loop-assign-preserved
loop-assign-preserved c =
    let items = c.deref-assign-items.ensures.value in
    let below = subst (λ (z : List Assign). c.loop-assign.assign-index < length z) items c.loop-assign-test.true in
    let is = subst (λ (z : List Assign). c.assign-item.result
    ≡ get_or z c.loop-assign.assign-index c.assign-item.result) items c.assign-item.is in
    flows_more c.args.parts.now c.loop-assign.assign-index c.assign-item.result c.in_ok-wide.wide c.loop-assign.least
    c.least_with-least.result (stands_item c.args.parts.now.assigns.items c.loop-assign.assign-index
    c.assign-item.result below is)
    c.loop-assign.invariant (c.in_ok-wide.ensures c.args.parts.now c.requires) c.least_with-least.ensures

pub returns : goal.returns
returns c =
    let past = subst (λ (z : List Assign). length z ≤ c.loop-assign.assign-index) c.deref-assign-items.ensures.value
    c.loop-assign-test.false in
    let within = subst (λ (z : List Assign). c.loop-assign.assign-index ≤ length z) c.deref-assign-items.ensures.value
    c.loop-assign.auto.assign-index-end in
    let e : c.loop-assign.assign-index ≡ length c.args.parts.now.assigns.items = omega arith in
    subst (λ (n : ℕ). IsLeastNumber (IsWideFlow c.args.parts.now n) c.loop-assign.least) e c.loop-assign.invariant
