-- What the domains of the variables allow.
use Rattle.std.proofs.Common.{◌≡◌, Bool, true, false, List, length, Contains, refl}
use Rattle.ar_base.specs.Numbers.{VarId}
use Rattle.domains.specs.Domains.{IsDomain, Holds, values_of}
use Rattle.domains.specs.Same.{has_value}
use Rattle.domains.proofs.Same.{has_in, in_has}
use Rattle.domains.proofs.Domains.{held, listed}
use Rattle.domains.specs.declared.Value.{Value}
use Rattle.typed_expr.specs.Rows.{Rows}
use Rattle.typed_expr.specs.Yields.{Yields}
use Rattle.typed_expr.specs.declared.expr.Expr.{out-Expr}
use Rattle.ar_meaning.specs.Facts.{Allows}
use Rattle.ar_meaning.specs.Found.{IsAnswer}
use Rattle.gts_core.specs.View.{net_of}
use Rattle.gts_core.proofs.Numbering.{yields_numbered, yields_back}
use Rattle.gts_core.specs.declared.system.Assign.{Assign}
use Rattle.typed_expr.specs.Sets.{HasExactly}
use Rattle.gts_core.specs.declared.system.Variable.{Variable}
use Rattle.gts_core.specs.declared.system.GtsParts.{GtsParts}
use Rattle.gts_core.specs.Rows.{AreDomains, RowFacts}
use Rattle.gts_core.proofs.Allowing.{there, back}
use Rattle.tree_equations.specs.Leaving.{MayGiveOutside}

-- a value that the assignment yields, and which the domain of its target does not have
module _ (p : GtsParts) (rows : Rows) (a : AreDomains p (length p.variables.items) rows) (x : Variable)
    (assign : Assign) (set : List Value)
    (exact : HasExactly set (Yields (RowFacts rows) (out-Expr VarId assign.value))) where
  pub may_leave : (v : Value) → Contains set v → (Contains (values_of x.domain) v → ⊥) → MayGiveOutside x assign p
  may_leave v c outside = record {
    value = v;
    may = yields_numbered (RowFacts rows) (Allows (net_of p)) assign.value v (λ y w f. there p rows a y.n w f)
        (exact.sound v c);
    outside = outside;
  }

  pub may_not : ((v : Value) → Contains set v → Contains (values_of x.domain) v) → MayGiveOutside x assign p → ⊥
  may_not inside m =
      m.outside (inside m.value (exact.complete m.value
      (yields_back (RowFacts rows) (Allows (net_of p)) assign.value m.value (λ y w f. back p rows a y.n w f) m.may)))

-- what a test of the values says
pub leave_answer : (p : GtsParts) (rows : Rows)
    (a : AreDomains p (length p.variables.items) rows) (x : Variable) (assign : Assign) (set : List Value)
    → HasExactly set (Yields (RowFacts rows) (out-Expr VarId assign.value)) → IsDomain x.domain → (b : Bool)
    → IsAnswer b ((v : Value) × Contains set v × (Holds x.domain v → ⊥)) → IsAnswer b (MayGiveOutside x assign p)
leave_answer p rows a x assign set exact is true h =
    may_leave p rows a x assign set exact h.0 h.1 (λ c. h.2 (held x.domain h.0 is c))
leave_answer p rows a x assign set exact is false h =
    may_not p rows a x assign set exact (λ v c. by v c (has_value v (values_of x.domain)) refl)
  where
    by : (v : Value) → Contains set v → (b : Bool) → has_value v (values_of x.domain) ≡ b
        → Contains (values_of x.domain) v
    by v c true e = has_in v (values_of x.domain) e
    by v c false e = absurd (h (v, c, λ w. let i = in_has v (values_of x.domain) (listed x.domain v w) in cc))
