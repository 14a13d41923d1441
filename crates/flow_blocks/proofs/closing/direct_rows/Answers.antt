-- Each use sets its bit.
use Rattle.std.proofs.Common.{◌≡◌, ℕ, ◌+◌, ◌↔◌, List, ◌++◌, take, drop, length, sym, ap, ◌∙◌, subst, inl, inr}
use Rattle.std.proofs.lemmas.List.{take_at}
use Rattle.ar_base.specs.Lists.{IsOneOf}
use Rattle.flow_blocks.specs.Bits.{HasBit, AreRows}
use Rattle.flow_blocks.proofs.RowLemmas.{Row}
use Rattle.flow_blocks.proofs.UseLemmas.{one_at, one_of_more, next_one, one_of_next}
use Rattle.flow_blocks.proofs.closing.direct_rows.Goals as goal

pub mark-requires-clause-from : goal.mark-requires-clause-from
mark-requires-clause-from c = (c.requires _ _
    (one_at c.args.uses.now c.loop-from.from-index (0, 0) c.loop-from-test.true)).0

pub mark-requires-clause-to : goal.mark-requires-clause-to
mark-requires-clause-to c = (c.requires _ _
    (one_at c.args.uses.now c.loop-from.from-index (0, 0) c.loop-from-test.true)).1

-- the rows are those that the call left
written : (c : goal.After-rows-in-loop-from-2-1)
    → take c.loop-from.rows.len (c.mark.new.rows ++ drop (length c.mark.new.rows) c.loop-from.rows.items)
    ≡ c.mark.new.rows
written c = take_at c.mark.new.rows (drop (length c.mark.new.rows) c.loop-from.rows.items) c.loop-from.rows.len
    (c.mark.auto.rows ∙ c.deref_mut.ensures.len)

bits : (c : goal.After-rows-in-loop-from-2-1) (a n : ℕ) → HasBit c.mark.new.rows a n
    ↔ IsOneOf (take (c.loop-from.from-index + 1) c.args.uses.now) (a, n)
bits c a n = (
  (λ h. elim ((c.mark.ensures.bits a n).0 h) [
    | inl old ↦ one_of_more c.args.uses.now c.loop-from.from-index (a, n)
        ((c.loop-from.invariant.bits a n).0
        (subst (λ (rows : List Row). HasBit rows a n) c.deref_mut.ensures.value old))
    | inr new ↦ subst (λ (p : ℕ × ℕ). IsOneOf (take (c.loop-from.from-index + 1) c.args.uses.now) p)
        (λ j. (sym new.0 j, sym new.1 j)) (next_one c.args.uses.now c.loop-from.from-index (0, 0) c.loop-from-test.true)
  ]),
  (λ one. (c.mark.ensures.bits a n).1
      (elim (one_of_next c.args.uses.now c.loop-from.from-index (0, 0) (a, n) c.loop-from-test.true one) [
        | inl earlier ↦ inl (subst (λ (rows : List Row). HasBit rows a n) (sym c.deref_mut.ensures.value)
            ((c.loop-from.invariant.bits a n).1 earlier))
        | inr this ↦ inr (ap (λ (p : ℕ × ℕ). p.0) this, ap (λ (p : ℕ × ℕ). p.1) this)
      ])),
)

pub loop-from-preserved : goal.loop-from-preserved
loop-from-preserved c = record {
  rows = subst (λ (rows : List Row). AreRows c.args.count rows) (sym (written c)) c.mark.ensures.rows;
  bits = λ a n. subst (λ (rows : List Row). HasBit rows a n
      ↔ IsOneOf (take (c.loop-from.from-index + 1) c.args.uses.now) (a, n)) (sym (written c)) (bits c a n);
}
