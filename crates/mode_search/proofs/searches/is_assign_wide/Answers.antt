use Rattle.std.proofs.Common.{Bool, List, subst}
use Rattle.ar_base.specs.Numbers.{VarId}
use Rattle.typed_expr.specs.declared.expr.Expr.{Expr}
use Rattle.ar_meaning.specs.Found.{IsAnswer}
use Rattle.ar_firing.specs.Rules.{by_value}
use Rattle.mode_search.specs.Wide.{IsSomeWide}
use Rattle.mode_search.proofs.Allowing.{says_as}
use Rattle.ar_meaning.proofs.Found.{holds, fails}
use Rattle.mode_search.proofs.Assigning.{assign_wide}
use Rattle.mode_search.proofs.searches.is_assign_wide.Goals as goal

pub returns-then-wide : goal.returns-then-wide
returns-then-wide c = λ p a. by_value (holds _ _ c.if-wide.true (c.in_ok-wide.ensures p a))

pub returns : goal.returns
returns c = says_as c.args.domains.now.rows.items _ _ c.is_some_wide.result
    (λ p a b h. assign_wide p c.args.assign.now b (fails _ _ c.if-wide.false (c.in_ok-wide.ensures p a))
    (subst (λ (z : List (Expr VarId × Bool)). IsAnswer b (IsSomeWide p z)) c.deref.ensures.value h))
    c.is_some_wide.ensures
