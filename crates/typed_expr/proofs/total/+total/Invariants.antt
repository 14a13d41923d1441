use Rattle.std.proofs.Common.{◌≡◌, drop, take, map}
use Rattle.domains.specs.declared.Value.{Value}
use Rattle.typed_expr.specs.Values.{sum_of}
use Rattle.typed_expr.specs.Folds.{fold_of}
use Rattle.typed_expr.specs.Total.{value_of, all_true, one_true, first_true}
use Rattle.typed_expr.proofs.Folding.{is_nil}
use Rattle.typed_expr.proofs.total.+total.Given as goal

-- what is left decides
abbrev pub invariant-all_total-loop-e : goal.invariant-all_total-loop-e
invariant-all_total-loop-e g l =
    let value = value_of (g.E.Env.value_at l.env) in
    all_true (map value (drop l.e-index l.es)) ≡ all_true (map value l.es)

abbrev pub invariant-any_total-loop-e : goal.invariant-any_total-loop-e
invariant-any_total-loop-e g l =
    let value = value_of (g.E.Env.value_at l.env) in
    one_true (map value (drop l.e-index l.es)) ≡ one_true (map value l.es)

abbrev pub invariant-sum_total-loop-plus : goal.invariant-sum_total-loop-plus
invariant-sum_total-loop-plus g l =
    let value = value_of (g.E.Env.value_at l.env) in
    l.sum ≡ sum_of (map (λ p. (p.0, value p.1)) (take l.plus-index l.parts))

abbrev pub invariant-fold_total-loop-e : goal.invariant-fold_total-loop-e
invariant-fold_total-loop-e g l =
    let value = value_of (g.E.Env.value_at l.env) in
    (l.so_far ≡ fold_of l.step (map value (take l.e-index l.es))) × (l.first ≡ is_nil (map value (take l.e-index l.es)))

abbrev pub invariant-chosen-loop-test : goal.invariant-chosen-loop-test
invariant-chosen-loop-test g l =
    let value = value_of (g.E.Env.value_at l.env) in
    (other : Value) → first_true (map (λ c. (value c.0, value c.1)) (drop l.test-index l.cases)) other ≡ first_true
    (map (λ c. (value c.0, value c.1)) l.cases) other
