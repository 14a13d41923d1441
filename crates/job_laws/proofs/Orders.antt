-- A listing of the cuts of at most so many events is a part of one of more.
use Rattle.std.proofs.Common.{◌≡◌, ◌≤◌, ℕ, List, Option, Some, sym, subst, arith}
use Rattle.ar_base.specs.Lists.{Stands, IsOneOf}
use Rattle.ar_base.proofs.Standing.{along_on, along_back}
use Rattle.ar_firing.specs.Cuts.{Cut}
use Rattle.ar_firing.specs.Static.{IsKeyedStatic}
use Rattle.ar_firing.proofs.Lines.{one_line}
use Rattle.ar_meaning.specs.Runs.{Label}
use Rattle.ar_meaning.specs.Systems.{System}
use Rattle.ar_meaning.specs.TraceText.{Naming}
use Rattle.cut_text.specs.Texts.{IsCutText}
use Rattle.domains.specs.declared.Value.{Value}
use Rattle.firable_families.specs.Firable.{AndUpTo}
use Rattle.typed_expr.specs.declared.expr.Expr.{Expr}

-- sets of at most k events are sets of at most n
pub wider : (k n : ℕ) → k ≤ n → (P : List ℕ → Type 0) (set : List ℕ) → AndUpTo (Some k) P set → AndUpTo (Some n) P set
wider k n l P set h =
    let few = h.1.few in (h.0, record { list = h.1.list; within = h.1.within; few = omega (arith, l, few) })

module _ {V : Type 0} (names : Naming) (sys : System V) (dropped : List ℕ) (static : IsKeyedStatic sys dropped)
    (observer : Expr V) (wanted : Value) (small large : Option ℕ)
    (more : (set : List ℕ) → AndUpTo small (Cut sys dropped observer wanted) set
    → AndUpTo large (Cut sys dropped observer wanted) set) where
  -- each line of the one is a line of the other
  pub line_there : (s t : List ℕ) (a : IsCutText small names sys dropped observer wanted s)
      (b : IsCutText large names sys dropped observer wanted t) (line : List Label) → IsOneOf a.lines line
      → IsOneOf b.lines line
  line_there s t a b line o =
      let p = along_back a.sets a.lines a.are_lines o.place line o.stands in
      let w = b.are_listed.whole p.0 (more p.0 (a.are_listed.sound o.place p.0 p.1)) in
      let q = along_on b.sets b.lines b.are_lines w.1.place w.0 w.1.stands in
      let e : line ≡ q.0 = one_line sys dropped static.keyed static.static w.2 w.3 p.2 q.2 in
      record {
        place = w.1.place;
        stands = subst (λ (z : List Label). Stands b.lines w.1.place z) (sym e) q.1;
      }
