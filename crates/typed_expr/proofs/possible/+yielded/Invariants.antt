use Rattle.typed_expr.specs.YieldsInside.{facts_of}
use Rattle.typed_expr.proofs.SoFar.{TallySoFar, FoldSoFar, SumSoFar, ChoiceSoFar}
use Rattle.typed_expr.proofs.possible.+yielded.Given as goal

-- the operands so far
abbrev pub invariant-tally-loop-e : goal.invariant-tally-loop-e
invariant-tally-loop-e g l = TallySoFar (facts_of (g.E.Env.facts_at l.env)) l.most l.b l.one_other l.each l.es l.e-index

abbrev pub invariant-folded-loop-e : goal.invariant-folded-loop-e
invariant-folded-loop-e g l =
    FoldSoFar (facts_of (g.E.Env.facts_at l.env)) l.most l.step l.first l.so_far l.es l.e-index

abbrev pub invariant-summed-loop-plus : goal.invariant-summed-loop-plus
invariant-summed-loop-plus g l = SumSoFar (facts_of (g.E.Env.facts_at l.env)) l.most l.so_far l.parts l.plus-index

abbrev pub invariant-chosen-loop-test : goal.invariant-chosen-loop-test
invariant-chosen-loop-test g l =
    ChoiceSoFar (facts_of (g.E.Env.facts_at l.env)) l.most l.so_far l.passes l.cases l.test-index
