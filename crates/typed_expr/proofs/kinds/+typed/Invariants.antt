use Rattle.typed_expr.proofs.Kinded.{EachSoFar, PartsSoFar, CasesSoFar}
use Rattle.typed_expr.proofs.kinds.+typed.Given as goal

abbrev pub invariant-each_has-loop-e : goal.invariant-each_has-loop-e
invariant-each_has-loop-e g l = EachSoFar (g.E.Env.kind_at l.env) l.es l.e-index l.kind

abbrev pub invariant-each_part-loop-e : goal.invariant-each_part-loop-e
invariant-each_part-loop-e g l = PartsSoFar (g.E.Env.kind_at l.env) l.parts l.e-index

abbrev pub invariant-each_case-loop-test : goal.invariant-each_case-loop-test
invariant-each_case-loop-test g l = CasesSoFar (g.E.Env.kind_at l.env) l.cases l.test-index l.kind
