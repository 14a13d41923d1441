use Rattle.std.proofs.Common.{ℕ, List, subst}
use Rattle.ar_base.proofs.Standing.{stands_item}
use Rattle.cut_check.specs.Flat.{flat_event_numbers}
use Rattle.cut_check.proofs.LookupLemmas.{IsRowOf, is_listed_row, no_row_more, not_listed_rows}
use Rattle.cut_check.proofs.lookup.is_any.Goals as goal
use Rattle.cut_check.proofs.lookup.is_any.Goals.{else-is_within-via-then-is_within+else-has_all_bits, else-is_within-via-else-is_within}

pub returns-then-has_all_bits : goal.returns-then-has_all_bits
returns-then-has_all_bits c = λ lines have bits.
    let rows = c.args.rows.now in
    let set = flat_event_numbers c.args.events.now in
    let asked = c.args.asked.now in
    let i = c.loop-row.row-index in
    let r = c.row-item.result in
    is_listed_row lines rows have asked set bits i r (stands_item rows i r c.loop-row-test.true c.row-item.is)
    (subst (λ (z : List ℕ). IsRowOf set asked z) c.deref-words.ensures.value (c.if-has_all_bits.ensures, c.if-is_within.ensures))

pub loop-row-preserved : goal.loop-row-preserved
loop-row-preserved c = λ lines have bits.
    let rows = c.args.rows.now in
    let set = flat_event_numbers c.args.events.now in
    let asked = c.args.asked.now in
    let i = c.loop-row.row-index in
    let r = c.row-item.result in
    let other : IsRowOf set asked c.deref-words.result.now → ⊥ = elim c.else-is_within.branch [
      | else-is_within-via-then-is_within+else-has_all_bits w ↦ λ h. w.if-has_all_bits.ensures h.0
      | else-is_within-via-else-is_within w ↦ λ h. w.if-is_within.ensures h.1
    ] in
    no_row_more lines rows have asked set bits i r (stands_item rows i r c.loop-row-test.true c.row-item.is)
    (subst (λ (z : List ℕ). IsRowOf set asked z → ⊥) c.deref-words.ensures.value other)
    (c.loop-row.invariant lines have bits)

pub returns : goal.returns
returns c = λ lines have bits.
    not_listed_rows lines c.args.rows.now have c.args.asked.now (flat_event_numbers c.args.events.now) bits
    c.loop-row.row-index c.loop-row-test.false (c.loop-row.invariant lines have bits)
