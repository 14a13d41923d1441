use Rattle.std.proofs.Common.{ℕ, Bool, length, take}
use Rattle.ar_base.specs.Lists.{IsOneOf}
use Rattle.ar_base.specs.Numbers.{VarId}
use Rattle.typed_expr.specs.Possible.{IsWide}
use Rattle.typed_expr.specs.declared.expr.Expr.{Expr, out-Expr}
use Rattle.ar_meaning.specs.Facts.{Allows}
use Rattle.gts_core.specs.View.{net_of, numbered}
use Rattle.gts_core.specs.declared.system.GtsParts.{GtsParts}
use Rattle.gts_core.specs.Rows.{AreDomains}
use Rattle.mode_search.proofs.searches.is_some_wide.Given as goal

abbrev pub invariant-loop-test : goal.invariant-loop-test
invariant-loop-test l = (p : GtsParts) → AreDomains p (length p.variables.items) l.domains.rows.items
    → (x : Expr VarId × Bool) → IsOneOf (take l.test-index l.conditions) x
    → IsWide (Allows (net_of p)) 64 (out-Expr ℕ (numbered x.0)) → ⊥
