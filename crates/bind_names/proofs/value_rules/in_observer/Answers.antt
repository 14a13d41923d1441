use Rattle.source_meaning.specs.Tested as s
use Rattle.bind_scopes.specs.Scopes.{everything}
use Rattle.bind_names.proofs.Valued.{observer_there, observer_is, observer_earliest, untyped_observer}
use Rattle.bind_names.proofs.value_rules.in_observer.Goals as goal

pub returns-in_err-form : goal.returns-in_err-form
returns-in_err-form c = λ m units t are is has. absurd
    (observer_there m units t c.args.node.now is has
    (c.in_err-form.ensures m.declared are.is_tree.table.table.holds.bodies))

pub returns-in-None : goal.returns-in-None
returns-in-None c = λ m units t are is has.
    let e = observer_is m units t c.args.node.now is has c.in_ok-form.form c.in_ok-form.expr.now
    (c.in_ok-form.ensures m.declared are.is_tree.table.table.holds.bodies) in
    untyped_observer m c.args.rule t c.in_ok-form.form c.in_ok-form.expr.now e (c.in-None.ensures m units are)

pub returns-in-Some : goal.returns-in-Some
returns-in-Some c = λ m units t are is has.
    let e = observer_is m units t c.args.node.now is has c.in_ok-form.form c.in_ok-form.expr.now
    (c.in_ok-form.ensures m.declared are.is_tree.table.table.holds.bodies) in
    observer_earliest m c.args.rule t c.in_ok-form.form c.in_ok-form.expr.now e c.in-Some.kind
    (c.in-Some.ensures m units are) c.in_expression.result
    (c.in_expression.ensures m units t.unit s.Everything are is.node.unit everything)
