use Rattle.std.proofs.Common.{ℕ, Bool}
use Rattle.ar_base.specs.Numbers.{VarId}
use Rattle.typed_expr.specs.Possible.{IsWide}
use Rattle.typed_expr.specs.declared.expr.Expr.{Expr, out-Expr}
use Rattle.ar_meaning.specs.Facts.{Allows}
use Rattle.ar_base.proofs.Standing.{one_none, one_here, stands_item}
use Rattle.gts_core.specs.View.{net_of, numbered}
use Rattle.mode_search.proofs.Added.{each_more, each_all}
use Rattle.ar_meaning.proofs.Found.{holds, fails}
use Rattle.mode_search.proofs.searches.is_some_wide.Goals as goal

pub loop-test-init : goal.loop-test-init
loop-test-init c = λ p a x o. absurd (one_none x o)

pub loop-test-preserved : goal.loop-test-preserved
loop-test-preserved c = λ p a. each_more c.args.conditions.now c.loop-test.test-index
    (λ (x : Expr VarId × Bool). IsWide (Allows (net_of p)) 64 (out-Expr ℕ (numbered x.0)) → ⊥) c.loop-test-item.result
    c.loop-test-test.true c.loop-test-item.is
    (c.loop-test.invariant p a) (fails _ _ c.if-wide.false (c.in_ok-wide.ensures p a))

pub returns-then-wide : goal.returns-then-wide
returns-then-wide c = λ p a. record {
  condition = c.loop-test-item.result;
  is_one = one_here c.args.conditions.now c.loop-test.test-index c.loop-test-item.result
      (stands_item c.args.conditions.now c.loop-test.test-index c.loop-test-item.result c.loop-test-test.true
      c.loop-test-item.is);
  wide = holds _ _ c.if-wide.true (c.in_ok-wide.ensures p a);
}

pub returns : goal.returns
returns c = λ p a h. each_all c.args.conditions.now c.loop-test.test-index
    (λ (x : Expr VarId × Bool). IsWide (Allows (net_of p)) 64 (out-Expr ℕ (numbered x.0)) → ⊥) c.loop-test-test.false
    (c.loop-test.invariant p a) h.condition h.is_one h.wide
