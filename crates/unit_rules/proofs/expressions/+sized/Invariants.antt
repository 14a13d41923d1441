use Rattle.std.proofs.Common.{◌≡◌, ◌+◌, map, sum, take, Bool}
use Rattle.ar_syntax.specs.declared.expressions.RawExpr.{RawExpr}
use Rattle.unit_rules.specs.Sizes.{expr_size}
use Rattle.unit_rules.specs.Counting.{capped}
use Rattle.unit_rules.proofs.expressions.+sized.Given as goal

abbrev pub invariant-listed-loop-e : goal.invariant-listed-loop-e
invariant-listed-loop-e l = l.size ≡ capped (sum (map expr_size (take l.e-index l.es)))

abbrev pub invariant-summed-loop-e : goal.invariant-summed-loop-e
invariant-summed-loop-e l = l.size ≡ capped (sum (map (λ (p : Bool × RawExpr). expr_size p.1) (take l.e-index l.parts)))

abbrev pub invariant-chosen-loop-test : goal.invariant-chosen-loop-test
invariant-chosen-loop-test l = l.size
    ≡ capped (sum (map (λ (c : RawExpr × RawExpr). expr_size c.0 + expr_size c.1) (take l.test-index l.cases)))
