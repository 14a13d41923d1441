use Rattle.std.proofs.Common.{sym, refl}
use Rattle.ar_base.proofs.Truths.{not_read, is_read}
use Rattle.bind_scopes.proofs.NamedPaths.{kind_one}
use Rattle.bind_names.proofs.OutsideDomains.{inside_none, outside_there}
use Rattle.bind_names.proofs.outside_domains.outside.Goals as goal

pub returns-then-holds : goal.returns-then-holds
returns-then-holds c = λ m units t are has h is type.
    inside_none are.is_tree.table.kept t c.args.value is c.args.domain.now type
    (is_read c.holds.result c.if-holds.true c.holds.ensures)

pub returns-in-Some : goal.returns-in-Some
returns-in-Some c = λ m units t are has h is type.
    let w = c.in-Some.ensures.in_force m units t c.args.attribute are.is_tree.table.table refl h in
    outside_there are.is_tree.table.kept t c.args.value is c.args.domain.now type has w.0 w.1
    (not_read c.holds.result c.if-holds.false c.holds.ensures) c.in-Some.expr.now (kind_one refl (sym w.3))

pub returns-in-None : goal.returns-in-None
returns-in-None c = λ m units t are has h is type.
    let w = c.in-None.ensures.in_force m units t c.args.attribute are.is_tree.table.table refl h in let e = w.3 in absurd (cc)
