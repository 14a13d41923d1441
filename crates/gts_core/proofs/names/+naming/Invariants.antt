use Rattle.std.proofs.Common.{drop}
use Rattle.typed_expr.specs.Mentions.{Some_mentions, Parts_mention, Cases_mention}
use Rattle.gts_core.proofs.Added.{Remains}
use Rattle.gts_core.proofs.names.+naming.Given as goal

abbrev pub invariant-add_cases-loop-test : goal.invariant-add_cases-loop-test
invariant-add_cases-loop-test l = Remains (λ x. Cases_mention x (drop l.test-index l.cases))
    (λ x. Cases_mention x l.cases) l.initial.found.items l.found.items

abbrev pub invariant-add_parts-loop-e : goal.invariant-add_parts-loop-e
invariant-add_parts-loop-e l = Remains (λ x. Parts_mention x (drop l.e-index l.parts)) (λ x. Parts_mention x l.parts)
    l.initial.found.items l.found.items

abbrev pub invariant-add_some-loop-e : goal.invariant-add_some-loop-e
invariant-add_some-loop-e l = Remains (λ x. Some_mentions x (drop l.e-index l.es)) (λ x. Some_mentions x l.es)
    l.initial.found.items l.found.items
