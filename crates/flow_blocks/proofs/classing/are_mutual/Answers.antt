-- Both rows are those of the numbers.
use Rattle.std.proofs.Common.{ℕ, List, sym, ◌∙◌, subst, true≢false}
use Rattle.lane_rows.specs.Rows.{IsSet}
use Rattle.flow_blocks.proofs.RowLemmas.{row_taken}
use Rattle.flow_blocks.proofs.classing.are_mutual.Goals as goal

pub returns-then-has : goal.returns-then-has
returns-then-has c =
    let of_a = c.deref.ensures.value ∙ row_taken c.args.count c.args.rows.now c.args.a c.index-rows-a.result
    c.index-rows-a.result c.requires.rows c.requires.a c.index-rows-a.is in
    let of_b = c.deref-then-has.ensures.value ∙ row_taken c.args.count c.args.rows.now c.args.b c.index-rows-b.result c.index-rows-b.result c.requires.rows c.requires.b c.index-rows-b.is in (
      (λ yes. (
        subst (λ (r : List ℕ). IsSet r c.args.b) of_a (c.has.ensures.0 c.if-has.true),
        subst
            (λ (r : List ℕ). IsSet r c.args.a) of_b (c.has-then-has.ensures.0 yes),
      )),
      (λ both. c.has-then-has.ensures.1 (subst (λ (r : List ℕ). IsSet r c.args.a) (sym of_b) both.1)),
    )

pub returns-else-has : goal.returns-else-has
returns-else-has c =
    let of_a = c.deref.ensures.value ∙ row_taken c.args.count c.args.rows.now c.args.a c.index-rows-a.result c.index-rows-a.result c.requires.rows c.requires.a c.index-rows-a.is in (
      (λ yes. absurd (true≢false (sym yes ∙ c.if-has.false))),
      (λ both. c.has.ensures.1 (subst (λ (r : List ℕ). IsSet r c.args.b) (sym of_a) both.0)),
    )
