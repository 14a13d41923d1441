-- Empty lists have no item.
use Rattle.std.proofs.Common.{◌≡◌, ℕ, ◌+◌, List, [], ◌∷◌, length, ap, ◌∙◌, subst, arith, inl, inr, length-append}
use Rattle.std.proofs.lemmas.Bool.{cases_lt}
use Rattle.ar_base.specs.Lists.{IsOneOf}
use Rattle.ar_base.proofs.Standing.{stands_none}
use Rattle.flow_blocks.specs.Bits.{row_of}
use Rattle.flow_blocks.proofs.RowLemmas.{Row, row_past, row_push, row_last}
use Rattle.flow_blocks.proofs.lists.empty_lists.Goals as goal

pub loop-alloc-preserved : goal.loop-alloc-preserved
loop-alloc-preserved c =
    let grown = c.in_ok-push.ensures.items in
    let long : length c.push.new.self.items ≡ length c.loop-alloc.lists.items + 1 =
    ap length grown ∙ length-append c.loop-alloc.lists.items (c.new.result ∷ []) in
    record {
      within = omega (arith, long, c.loop-alloc-test.true, c.len.ensures);
      each = λ a lt. ap (λ (rows : List Row). row_of rows a) grown
          ∙ elim (cases_lt a (length c.loop-alloc.lists.items)) [
            | inl below ↦ row_push c.loop-alloc.lists.items c.new.result a below ∙ c.loop-alloc.invariant.each a below
            | inr past ↦ row_last c.loop-alloc.lists.items c.new.result a (omega (arith, long, lt)) ∙ c.new.ensures.items
          ];
    }

pub returns-clause-none : goal.returns-clause-none
returns-clause-none c = λ a n one. elim (cases_lt a (length c.loop-alloc.lists.items)) [
  | inl lt ↦ stands_none one.place n (subst (λ (l : List ℕ). IsOneOf l n) (c.loop-alloc.invariant.each a lt) one).stands
  | inr past ↦ stands_none one.place n
      (subst (λ (l : List ℕ). IsOneOf l n) (row_past c.loop-alloc.lists.items a past) one).stands
]
