use Rattle.std.proofs.Common.{List, insert, sym, ap, subst}
use Rattle.domains.specs.Values.{IsAscending}
use Rattle.domains.specs.declared.Value.{Value}
use Rattle.typed_expr.specs.Sets.{GoesAt, Inserts, RefusesValue}
use Rattle.typed_expr.specs.declared.value_set.Stop.TheVariants.{TooMany}
use Rattle.typed_expr.proofs.Putting.{refuses, inserts, ascending-insert, either_way, on_ok, on_err}
use Rattle.typed_expr.proofs.value_set.ValueSet.put.Goals as goal
use Rattle.typed_expr.proofs.value_set.ValueSet.put.Goals.{in-Ok, in-Err}

pub returns-then-is_full-clause-err : goal.returns-then-is_full-clause-err
returns-then-is_full-clause-err c =
    let at : GoesAt c.self.inside.items.items c.args.v c.in-Some.place =
    subst (λ (xs : List Value). GoesAt xs c.args.v c.in-Some.place) c.as_slice.ensures c.in-Some.ensures in
    subst (λ (xs : List Value). RefusesValue c.args.most xs c.args.v TooMany) c.self.view_is
    (refuses c.args.most c.self.inside.items.items c.args.v c.in-Some.place c.len.result at c.self.invariant
    c.len.ensures.value c.if-is_full.ensures)

pub invariant_of-self : goal.invariant_of-self
invariant_of-self c =
    let at : GoesAt c.self.inside.items.items c.args.v c.in-Some.place =
    subst (λ (xs : List Value). GoesAt xs c.args.v c.in-Some.place) c.as_slice.ensures c.in-Some.ensures in
    either_way c.insert.result c.insert.ensures.ok c.insert.ensures.err
    (λ h. subst IsAscending (sym h) (ascending-insert c.self.inside.items.items c.in-Some.place c.args.v
    at c.self.invariant))
    (λ h. subst IsAscending (sym (ap (λ s. s.items) h)) c.self.invariant)

pub returns-clause-ok : goal.returns-clause-ok
returns-clause-ok c =
    let at : GoesAt c.self.inside.items.items c.args.v c.in-Some.place =
    subst (λ (xs : List Value). GoesAt xs c.args.v c.in-Some.place) c.as_slice.ensures c.in-Some.ensures in
    let put =
    inserts c.args.most c.self.inside.items.items c.args.v c.in-Some.place c.len.result at c.len.ensures.value
    c.if-is_full.ensures in
    let put_here : Inserts c.args.most c.args.self.now c.args.v
    (insert c.self.inside.items.items c.in-Some.place c.args.v)
    = subst
    (λ (xs : List Value). Inserts c.args.most xs c.args.v (insert c.self.inside.items.items c.in-Some.place c.args.v))
    c.self.view_is put in
    elim c.match-insert.branch [
      | in-Ok w ↦
          on_ok c.match-insert.result tt w.result-is
          (subst (λ (xs : List Value). Inserts c.args.most c.args.self.now c.args.v xs) (sym w.in-Ok.ensures.ok)
          put_here)
      | in-Err w ↦ on_err _ c.match-insert.result _ w.result-is
    ]
