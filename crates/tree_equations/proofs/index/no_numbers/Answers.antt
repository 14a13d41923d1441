use Rattle.std.proofs.Common.{length, ap, ◌∙◌, arith}
use Rattle.std.proofs.lemmas.List.{length_push}
use Rattle.flow_blocks.specs.Bits.{row_of}
use Rattle.tree_equations.proofs.IndexLemmas.{none_more}
use Rattle.tree_equations.proofs.index.no_numbers.Goals as goal

pub loop-preserved : goal.loop-preserved
loop-preserved c =
    let long = ap length c.in_ok-push.ensures.items ∙ length_push c.loop.rows.items c.new-none.result in
    record {
      long = let h = c.loop.invariant.long in omega (arith, long, h);
      none = λ n. ap (λ z. row_of z n) c.in_ok-push.ensures.items
          ∙ none_more c.loop.rows.items c.new-none.result c.new-none.ensures.items c.loop.invariant.none n;
    }
