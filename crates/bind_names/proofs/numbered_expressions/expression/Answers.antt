use Rattle.ar_base.proofs.Results.{ok_map}
use Rattle.source_meaning.specs.Rules as rule
use Rattle.source_meaning.specs.Tested.{Everything}
use Rattle.bind_names.specs.declared.leaves.UnitLeaves.{UnitLeaves}
use Rattle.bind_names.proofs.Rights.{expression_bound, expression_typed}
use Rattle.bind_names.proofs.Settling.{settled_leaves}
use Rattle.bind_names.proofs.numbered_expressions.expression.Goals as goal

pub returns-clause-bound : goal.returns-clause-bound
returns-clause-bound c = λ m units u k s at tested.
    let leaves : UnitLeaves = record { scopes = c.args.scopes; unit = c.args.unit; parameters = c.deref.result } in
    let h = settled_leaves leaves c.args.values.now s at c.deref.ensures.value in
    let e = c.args.written.now in
    ok_map c.translated.result
    (λ f b. expression_bound h e f k (λ p w. s.names.naming p (rule.in_expression Everything k e tested w))
    (λ p w. s.names.kinds p (rule.in_expression Everything k e tested w)) b) c.translated.ensures

pub returns-clause-typed : goal.returns-clause-typed
returns-clause-typed c = λ m units u k s at tested.
    let leaves : UnitLeaves = record { scopes = c.args.scopes; unit = c.args.unit; parameters = c.deref.result } in
    let h = settled_leaves leaves c.args.values.now s at c.deref.ensures.value in
    let e = c.args.written.now in
    ok_map c.translated.result
    (λ f b. expression_typed h e f k (λ p w. s.names.naming p (rule.in_expression Everything k e tested w))
    (λ p w. s.names.kinds p (rule.in_expression Everything k e tested w)) b)
    c.translated.ensures
