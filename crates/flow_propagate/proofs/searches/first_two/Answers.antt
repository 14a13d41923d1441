use Rattle.std.proofs.Common.{◌≡◌, ◌<◌, ◌≤◌, ℕ, List, length, get_or, subst, sym, ◌∙◌, arith}
use Rattle.ar_base.proofs.Standing.{stands_item}
use Rattle.ar_base.proofs.Items.{before_more}
use Rattle.domains.specs.declared.Value.{Value}
use Rattle.gts_core.specs.declared.system.Variable.{Variable}
use Rattle.typed_expr.specs.Rows.{known_row_at}
use Rattle.flow_propagate.specs.Rows.{IsTwo}
use Rattle.flow_propagate.proofs.Putting.{row_here}
use Rattle.flow_propagate.proofs.Searching.{two_found, two_none}
use Rattle.flow_propagate.proofs.searches.first_two.Goals as goal

pub returns-then-is_two : goal.returns-then-is_two
returns-then-is_two c = λ t facts.
    let items = c.deref-variable-items.ensures.value in
    let below = subst (λ (z : List Variable). c.loop-place.place < length z) items c.loop-place-test.true in
    let is = subst (λ (z : List Variable). c.variable-item.result ≡ get_or z c.loop-place.place c.variable-item.result)
    items c.variable-item.is in
    let row : known_row_at c.args.table.now.rows.items c.loop-place.place ≡ c.deref.result.now =
    row_here c.args.table.now.rows.items c.loop-place.place c.index.result.now (omega (arith, below, c.requires.long))
    c.index.ensures ∙ sym c.deref.ensures.value in
    two_found c.args.parts.now t c.args.table.now.rows.items facts c.loop-place.place c.variable-item.result
    (stands_item c.args.parts.now.variables.items c.loop-place.place c.variable-item.result below is)
    (subst (λ (z : List Value). IsTwo c.variable-item.result.is_state z) (sym row) c.if-is_two.ensures)
    c.loop-place.invariant

pub loop-place-preserved : goal.loop-place-preserved
loop-place-preserved c =
    let items = c.deref-variable-items.ensures.value in
    let below = subst (λ (z : List Variable). c.loop-place.place < length z) items c.loop-place-test.true in
    let is = subst (λ (z : List Variable). c.variable-item.result ≡ get_or z c.loop-place.place c.variable-item.result)
    items c.variable-item.is in
    let row : known_row_at c.args.table.now.rows.items c.loop-place.place ≡ c.deref.result.now =
    row_here c.args.table.now.rows.items c.loop-place.place c.index.result.now (omega (arith, below, c.requires.long))
    c.index.ensures ∙ sym c.deref.ensures.value in
    before_more c.args.parts.now.variables.items c.loop-place.place c.variable-item.result
    (λ (k : ℕ) (x : Variable). IsTwo x.is_state (known_row_at c.args.table.now.rows.items k)) c.loop-place.invariant
    (stands_item c.args.parts.now.variables.items c.loop-place.place c.variable-item.result below is)
    (λ two. c.if-is_two.ensures (subst (λ (z : List Value). IsTwo c.variable-item.result.is_state z) row two))

pub returns : goal.returns
returns c = λ t facts. two_none c.args.parts.now t c.args.table.now.rows.items facts c.loop-place.place
    (subst (λ (z : List Variable). length z ≤ c.loop-place.place) c.deref-variable-items.ensures.value
    c.loop-place-test.false) c.loop-place.invariant
