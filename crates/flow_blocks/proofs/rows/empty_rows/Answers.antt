-- Empty rows have no bit.
use Rattle.std.proofs.Common.{◌≡◌, ◌+◌, ◌/◌, List, [], ◌∷◌, length, ap, ◌∙◌, arith, rules, inl, inr, length-append}
use Rattle.std.proofs.lemmas.Bool.{cases_lt}
use Rattle.flow_blocks.specs.Bits.{row_of}
use Rattle.flow_blocks.proofs.RowLemmas.{Row, no_bit, row_past, row_push, row_last}
use Rattle.std.proofs.lemmas.List.{length-replicate}
use Rattle.flow_blocks.proofs.rows.empty_rows.Goals as goal

pub loop-alloc-preserved : goal.loop-alloc-preserved
loop-alloc-preserved c =
    let grown = c.in_ok-push.ensures.items in
    let long : length c.push.new.self.items ≡ length c.loop-alloc.rows.items + 1 =
    ap length grown ∙ length-append c.loop-alloc.rows.items (c.in_ok-vec.field-0 ∷ []) in
    record {
      within = omega (arith, long, c.loop-alloc-test.true, c.len.ensures);
      each = λ a lt. ap (λ (rows : List Row). row_of rows a) grown
          ∙ elim (cases_lt a (length c.loop-alloc.rows.items)) [
            | inl below ↦ row_push c.loop-alloc.rows.items c.in_ok-vec.field-0 a below ∙ c.loop-alloc.invariant.each a below
            | inr past ↦ row_last c.loop-alloc.rows.items c.in_ok-vec.field-0 a (omega (arith, long, lt))
                ∙ c.in_ok-vec.ensures.items_if_clones_equal (search rules)
          ];
    }

pub returns-clause-rows : goal.returns-clause-rows
returns-clause-rows c = record {
  long = omega arith;
  wide = λ a lt. ap length (c.loop-alloc.invariant.each a (omega arith))
      ∙ length-replicate ((c.args.count + 63) / 64) 0;
}

pub returns-clause-none : goal.returns-clause-none
returns-clause-none c = λ a n is. elim (cases_lt a (length c.loop-alloc.rows.items)) [
  | inl lt ↦ no_bit _ n (row_of c.loop-alloc.rows.items a) (c.loop-alloc.invariant.each a lt) is
  | inr past ↦ no_bit 0 n (row_of c.loop-alloc.rows.items a) (row_past c.loop-alloc.rows.items a past) is
]
