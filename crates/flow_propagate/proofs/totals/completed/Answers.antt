use Rattle.std.proofs.Common.{◌≡◌, ◌<◌, List, length, get_or, subst, sym, ap, ◌∙◌, arith}
use Rattle.domains.specs.declared.Value.{Value}
use Rattle.domains.specs.declared.Value.TheVariants.{Truth}
use Rattle.std.proofs.Common.{false}
use Rattle.std.proofs.lemmas.List.{get_or_default}
use Rattle.ar_base.proofs.Standing.{stands_item}
use Rattle.gts_core.specs.declared.system.Variable.{Variable}
use Rattle.typed_expr.specs.Rows.{known_row_at}
use Rattle.flow_propagate.specs.Totals.{completed_value}
use Rattle.flow_propagate.proofs.Putting.{row_here}
use Rattle.flow_propagate.proofs.Totalling.{completed_more}
use Rattle.flow_propagate.proofs.totals.completed.Goals as goal

pub loop-place-preserved : goal.loop-place-preserved
loop-place-preserved c =
    let items = c.deref-variable-items.ensures.value in
    let below = subst (λ (z : List Variable). c.loop-place.place < length z) items c.loop-place-test.true in
    let is = subst (λ (z : List Variable). c.variable-item.result ≡ get_or z c.loop-place.place c.variable-item.result)
    items c.variable-item.is in
    let in_values : c.loop-place.place < length c.args.values.now = omega (arith, below, c.requires.long) in
    let row : c.deref.result.now ≡ known_row_at c.args.table.now.rows.items c.loop-place.place =
    c.deref.ensures.value ∙ sym (row_here c.args.table.now.rows.items c.loop-place.place c.index.result.now
    (omega (arith, below, c.requires.rows)) c.index.ensures) in
    let v = get_or c.args.values.now c.loop-place.place (Truth false) in
    completed_more c.args.parts.now.variables.items c.args.values.now c.args.table.now.rows.items c.loop-place.place
    c.variable-item.result v c.loop-place.total.items c.push.new.self.items _ c.loop-place.invariant
    (stands_item c.args.parts.now.variables.items c.loop-place.place c.variable-item.result below is)
    (stands_item c.args.values.now c.loop-place.place v in_values
    (get_or_default c.args.values.now c.loop-place.place (Truth false) v in_values))
    (c.value_for.ensures ∙ ap (λ (z : List Value). completed_value c.variable-item.result.is_state v z
    c.variable-item.result.value) row) c.in_ok-push.ensures.items
