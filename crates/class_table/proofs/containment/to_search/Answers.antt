use Rattle.std.proofs.Common.{refl, sym}
use Rattle.class_table.proofs.Enclosing.{not_inside}
use Rattle.class_table.proofs.containment.to_search.Goals as goal

pub returns-then-not-may_return-clause-none : goal.returns-then-not-may_return-clause-none
returns-then-not-may_return-clause-none c = λ d rows known inner are one p h. absurd
    (not_inside d c.args.body c.args.owned.now c.in_ok-inside.inside.body.n c.in_ok-inside.inside.at c.in_ok-at.at p
    (sym (c.in_ok-inside.ensures d known)) c.in_ok-at.was one h
    (c.if-not-may_return.ensures refl d rows inner are))
