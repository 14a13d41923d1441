use Rattle.std.proofs.Common.{sym, refl, arith}
use Rattle.ar_base.proofs.Standing.{along_length, stands_within}
use Rattle.bind_scopes.proofs.NamedPaths.{kind_one}
use Rattle.bind_names.proofs.ValuesRight.{value_right}
use Rattle.bind_names.proofs.computing.value_in.Goals as goal

pub returns-in_default : goal.returns-in_default
returns-in_default c = record {
  value = λ m units t n are kept has h first names.
      let w = c.in_default.ensures.in_force m units t c.args.value are.is_tree.table.table refl h in
      let e = w.3 in absurd (cc);
}

pub returns-then-value-len : goal.returns-then-value-len
returns-then-value-len c = record {
  value = λ m units t n are kept has h first names.
      let w = c.in-Some.ensures.in_force m units t c.args.value are.is_tree.table.table refl h in
      let s = stands_within units c.args.value.from.n w.0.unit w.2.unit in
      let l = along_length units c.args.scopes.now.tree.now.units.items are.is_tree.units_are in
      absurd (omega (arith, s, l));
}

pub returns : goal.returns
returns c = record {
  value = λ m units t n are kept has h first names.
      let w = c.in-Some.ensures.in_force m units t c.args.value are.is_tree.table.table refl h in
      value_right are kept t has n c.args.parameters.now first names w.0 w.1 c.args.value.from.n w.2.unit
      c.in-Some.expr.now c.in_ok-expression.expression c.eval_total-value.result (kind_one refl (sym w.3))
      c.in_ok-expression.ensures c.eval_total-value.ensures;
}
