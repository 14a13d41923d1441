use Rattle.std.proofs.Common.{◌≡◌, ◌<◌, ℕ, length, subst, sym, arith}
use Rattle.ar_base.proofs.Standing.{stands_get, stands_item}
use Rattle.typed_expr.specs.Rows.{Rows}
use Rattle.flow_propagate.specs.Rows.{Starts}
use Rattle.flow_propagate.proofs.RowStarting.{first_starts, more_starts}
use Rattle.flow_propagate.proofs.fact_rows.first_rows.Goals as goal

pub loop-place-init : goal.loop-place-init
loop-place-init c = subst (λ (z : Rows). Starts c.args.variables.now c.args.values.now 0 z) (sym c.new-rows.ensures.items)
    (first_starts c.args.variables.now c.args.values.now)

pub loop-place-preserved : goal.loop-place-preserved
loop-place-preserved c =
    let xs = c.args.variables.now in
    let t = c.args.values.now in
    let i = c.loop-place.place in
    let below = c.loop-place-test.true in
    more_starts xs t i c.index-variables-place.result _ c.in_ok-row.row c.loop-place.rows.items c.push.new.self.items
    (stands_item xs i c.index-variables-place.result below c.index-variables-place.is)
    (stands_get t i _ (subst (λ (z : ℕ). i < z) (sym c.requires) below)) c.in_ok-row.ensures
    c.in_ok-push.ensures.items c.loop-place.invariant

pub returns : goal.returns
returns c =
    let over : c.loop-place.place ≡ length c.args.variables.now = omega arith in
    subst (λ (n : ℕ). Starts c.args.variables.now c.args.values.now n c.loop-place.rows.items) over
    c.loop-place.invariant
