-- The facts of a reason's variables suffice.
use Rattle.std.proofs.Common.{◌≡◌, ℕ, List, Some, inl, inr, sym, subst}
use Rattle.ar_base.specs.Lists.{Stands}
use Rattle.ar_base.proofs.Standing.{stands_one}
use Rattle.domains.specs.declared.Value.{Value}
use Rattle.typed_expr.specs.Yields.{Yields}
use Rattle.typed_expr.specs.declared.expr.Expr.{out-Expr}
use Rattle.typed_expr.proofs.Facts.{yields_named}
use Rattle.ar_meaning.specs.Systems.{Assign, Variable, Net}
use Rattle.ar_meaning.specs.Facts.{PassesConditions, FactOf}
use Rattle.ar_meaning.specs.Dependence.{Names}
use Rattle.ar_meaning.proofs.Dependence.{passes_named}
use Rattle.flow_reasons.specs.Rounds.{Round}
use Rattle.flow_reasons.specs.RoundsInside.{OfThese}
use Rattle.flow_reasons.specs.Reasons.{Reason, IsDerived}
use Rattle.flow_reasons.proofs.RoundRounding.{round_fact, placed}

module _ {V : Type 0} (net : Net V) (t : List Value) (x : Variable V) (r : Reason) (d : IsDerived net t x r) where
  -- a fact that the assignment names is one of the reason's variables
  named : (y : V) (v : Value) → Names d.first.item y → Round net t d.before y v
      → OfThese net r.rests_on (FactOf net t) y v
  named y v n h =
      let p = placed net t d.before y v h in
      record {
        place = p.place;
        is_one = d.rests_on.whole p.place (record {
          variable = p.variable;
          stands = p.stands;
          names = subst (λ z. Names d.first.item z) (sym p.is_key) n;
          value = v;
          has = subst (λ z. Round net t d.before z v) (sym p.is_key) h;
        });
        variable = p.variable;
        stands = p.stands;
        is_key = p.is_key;
        has = round_fact net t d.before y v h;
      }

  pub suffices : (n : ℕ) (a : Assign V) → r.by ≡ Some n → Stands net.assertions n a
      → PassesConditions (OfThese net r.rests_on (FactOf net t)) a.conditions
      × Yields (OfThese net r.rests_on (FactOf net t)) (out-Expr V a.value) r.value
  suffices n a by s =
      let e : d.assertion ≡ n = cc (d.by, by) in
      let i = stands_one net.assertions n d.first.item a
      (subst (λ m. Stands net.assertions m d.first.item) e d.first.stands) s in
      let P : Assign V → Type 0 = λ b.
      PassesConditions (OfThese net r.rests_on (FactOf net t)) b.conditions
      × Yields (OfThese net r.rests_on (FactOf net t)) (out-Expr V b.value) r.value in
      subst P i (
        passes_named (λ y v m h. named y v (inr m) h) d.first.has.passes,
        yields_named (λ y v m h. named y v (inl m) h) d.first.has.yields,
      )
