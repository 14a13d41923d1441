use Rattle.std.proofs.Common.{drop}
use Rattle.typed_expr.specs.Mentions.{Some_mentions, Parts_mention, Cases_mention}
use Rattle.flow_changes.proofs.NamedMarks.{Remains}
use Rattle.flow_changes.proofs.marked.+marked.Given as goal

abbrev pub invariant-cases_marked-loop-test : goal.invariant-cases_marked-loop-test
invariant-cases_marked-loop-test l =
    Remains l.marks (λ x. Cases_mention x (drop l.test-index l.cases)) (λ x. Cases_mention x l.cases)

abbrev pub invariant-parts_marked-loop-e : goal.invariant-parts_marked-loop-e
invariant-parts_marked-loop-e l = Remains l.marks (λ x. Parts_mention x (drop l.e-index l.parts))
    (λ x. Parts_mention x l.parts)

abbrev pub invariant-some_marked-loop-e : goal.invariant-some_marked-loop-e
invariant-some_marked-loop-e l = Remains l.marks (λ x. Some_mentions x (drop l.e-index l.es))
    (λ x. Some_mentions x l.es)
