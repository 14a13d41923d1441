-- Expressions whose variables have the same values.
use Rattle.std.proofs.Common.{◌≡◌, ◌<◌, ℕ, sym, ◌∙◌, subst, arith}
use Rattle.ar_base.specs.Lists.{Stands}
use Rattle.ar_base.specs.Numbers.{VarId}
use Rattle.ar_base.proofs.Standing.{stands_some}
use Rattle.domains.specs.declared.Value.{Value}
use Rattle.std.proofs.Common.{List, length}
use Rattle.typed_expr.specs.Yields.{Yields}
use Rattle.typed_expr.specs.Mentions.{Mentions}
use Rattle.typed_expr.specs.declared.expr.Expr.{Expr, out-Expr}
use Rattle.typed_expr.specs.declared.expr.ValueKind.{ValueKind}
use Rattle.typed_expr.proofs.Facts.{yields_named}
use Rattle.ar_meaning.specs.Facts.{HasValue}
use Rattle.ar_meaning.proofs.ByNumber as number
use Rattle.gts_core.specs.View.{net_of, numbered, variable_of}
use Rattle.gts_core.specs.Sound.{IsTyped}
use Rattle.gts_core.specs.Readings.{IsTotal, valuation_at, value_in}
use Rattle.gts_core.specs.declared.system.GtsParts.{GtsParts}
use Rattle.gts_core.proofs.Numbering.{yields_numbered, yields_back}
use Rattle.gts_core.proofs.Reading.{read_value, yielded_value, value_yielded}
use Rattle.gts_core.proofs.Viewing.{variable_there, are_numbered}

module _ (p : GtsParts) (old new : List Value) (before : IsTotal p old) (after : IsTotal p new) where
  -- an expression has the same value where its variables have
  pub same_in : (e : Expr VarId) (k : ValueKind) → IsTyped p e k
      → ((x : VarId) → Mentions x (out-Expr VarId e) → valuation_at old x.n ≡ valuation_at new x.n)
      → value_in old e ≡ value_in new e
  same_in e k typed same = yielded_value p new after e k typed (value_in old e) now
    where
      Old : VarId → Value → Type 0
      Old x w = HasValue (net_of p) old x.n w

      New : VarId → Value → Type 0
      New x w = HasValue (net_of p) new x.n w

      then : Yields Old (out-Expr VarId e) (value_in old e)
      then = yields_back Old (HasValue (net_of p) old) e (value_in old e) (λ x w f. f)
          (value_yielded p old before e k typed)

      carry : (x : VarId) (w : Value) → Mentions x (out-Expr VarId e) → Old x w → New x w
      carry x w m h =
          let below : x.n < length p.variables.items = typed.variables x m in
          let y = stands_some p.variables.items x.n below in
          let v = stands_some new x.n (omega (arith, below, after.long)) in
          let i : v.0 ≡ w = sym (read_value new x.n v.0 v.1) ∙ sym (same x m)
          ∙ read_value old x.n w (number.value_at (net_of p) (are_numbered p) old x.n w h) in
          number.value_from (net_of p) (are_numbered p) new x.n (variable_of x.n y.0) w (variable_there p x.n y.0 y.1)
          (subst (λ (z : Value). Stands new x.n z) i v.1)

      now : Yields (HasValue (net_of p) new) (out-Expr ℕ (numbered e)) (value_in old e)
      now = yields_numbered New (HasValue (net_of p) new) e (value_in old e) (λ x w f. f) (yields_named carry then)
