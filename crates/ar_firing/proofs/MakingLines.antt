-- The line of a set that makes the value fires to the value.
use Rattle.std.proofs.Common.{◌≡◌, ℕ, Bool, false, List, reverse, refl, subst}
use Rattle.domains.specs.declared.Value.{Value}
use Rattle.typed_expr.specs.Yields.{Yields}
use Rattle.typed_expr.specs.declared.expr.Expr.{Expr, out-Expr}
use Rattle.ar_meaning.specs.Systems.{System}
use Rattle.ar_meaning.specs.Facts.{HasValue}
use Rattle.ar_meaning.specs.FactsInside.{AreKeyed}
use Rattle.ar_meaning.specs.Runs.{Label}
use Rattle.ar_base.specs.Sets.{Within}
use Rattle.ar_firing.specs.Static.{IsStatic}
use Rattle.ar_firing.specs.Cuts.{Reaches, IsFirable, Makes}
use Rattle.ar_firing.specs.Forest.{firing_line, IsLine}
use Rattle.ar_firing.specs.Operands.{Agrees}
use Rattle.ar_firing.proofs.Ends.{one_end}
use Rattle.ar_firing.proofs.Legal.{order_fires}
use Rattle.ar_firing.proofs.LeastSets.{within_then}
use Rattle.ar_firing.proofs.Lines.{line_is_legal}
use Rattle.ar_firing.proofs.SameSets.{events_within, set_within}

-- a firable set has a line
pub has_line : {V : Type 0} (sys : System V) (dropped : List ℕ) {set : List ℕ} {t : List Value}
    → IsFirable sys dropped set t → (ls : List Label) × IsLine sys dropped set ls
has_line sys dropped {t = t} f =
    (firing_line 0 sys.net.variables f.path, record { values = t; is_firable = f; is = refl })

module _ {V : Type 0} (sys : System V) (dropped : List ℕ) (keyed : AreKeyed sys.net) (static : IsStatic sys dropped)
    (observer : Expr V) (wanted : Value)
    (conflict top : List ℕ → Bool) (agrees : Agrees sys dropped observer wanted conflict top)
    {set : List ℕ}
    (calm : (part : List ℕ) (t : List Value) → Within part set → IsFirable sys dropped part t
    → conflict part ≡ false) where
  pub line_within : {ls : List Label} → Makes sys dropped observer wanted set → IsLine sys dropped set ls
      → (t : List Value) × Reaches sys dropped (reverse ls) t × Yields (HasValue sys.net t) (out-Expr V observer) wanted
  line_within {ls = ls} m h =
      let o = line_is_legal sys dropped keyed static h in
      let r =
      order_fires sys dropped keyed static (reverse ls) o
      (λ part t f w. let s = agrees.total part t f (calm part t w f) in record { values = s.values; flows = s.flows }) in
      let e = one_end sys dropped keyed static m.order.reaches r.1
      (within_then (events_within m.order.labels set m.order.events) (set_within (reverse ls) set o.events))
      (within_then (events_within (reverse ls) set o.events) (set_within m.order.labels set m.order.events)) in
      (r.0, r.1, subst (λ z. Yields (HasValue sys.net z) (out-Expr V observer) wanted) e m.shows)

module _ {V : Type 0} (sys : System V) (dropped : List ℕ) (keyed : AreKeyed sys.net) (static : IsStatic sys dropped)
    (observer : Expr V) (wanted : Value)
    (conflict top : List ℕ → Bool) (agrees : Agrees sys dropped observer wanted conflict top)
    (calm : (set : List ℕ) (t : List Value) → IsFirable sys dropped set t → conflict set ≡ false) where
  pub line_makes : {set : List ℕ} {ls : List Label} → Makes sys dropped observer wanted set → IsLine sys dropped set ls
      → (t : List Value) × Reaches sys dropped (reverse ls) t × Yields (HasValue sys.net t) (out-Expr V observer) wanted
  line_makes m h =
      line_within sys dropped keyed static observer wanted conflict top agrees (λ part t w f. calm part t f) m h
