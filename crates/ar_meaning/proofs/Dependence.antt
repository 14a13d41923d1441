-- Which variables conditions and assignments name.
use Rattle.std.proofs.Common.{◌≡◌, ℕ, zero, suc, Bool, List, [], ◌∷◌, sym, ap, subst}
use Rattle.ar_base.specs.Lists.{Stands, IsOneOf}
use Rattle.ar_base.proofs.Standing.{stands_none, one_first, one_rest}
use Rattle.domains.specs.declared.Value.{Value}
use Rattle.typed_expr.specs.Mentions.{Mentions}
use Rattle.typed_expr.specs.declared.expr.Expr.{Expr, out-Expr}
use Rattle.typed_expr.proofs.Facts.{yields_named}
use Rattle.typed_expr.proofs.Renaming.{Mentioned, mentions_carry}
use Rattle.ar_meaning.specs.Facts.{PassesConditions}
use Rattle.ar_meaning.specs.Facts as f
use Rattle.ar_meaning.specs.Image.{Conditions_rename}
use Rattle.ar_meaning.specs.Image as i
use Rattle.ar_meaning.specs.Dependence.{Tests, in_this, in_later}

module _ {V : Type 0} where
  -- a condition that names the variable stands in the list
  pub tests_at : (x : V) (cs : List (Expr V × Bool)) (n : ℕ) (e : Expr V) (b : Bool) → Stands cs n (e, b)
      → Mentions x (out-Expr V e) → Tests x cs
  tests_at x [] n e b s m = absurd (stands_none n (e, b) s)
  tests_at x ((d, c) ∷ cs) zero e b s m =
      let p : ◌≡◌ {A = Expr V × Bool} (d, c) (e, b) = cc in
      in_this (subst (λ (z : Expr V). Mentions x (out-Expr V z)) (sym (ap (λ (z : Expr V × Bool). z.0) p)) m)
  tests_at x ((d, c) ∷ cs) (suc n) e b s m = in_later (tests_at x cs n e b s m)

  -- one of the conditions names the variable
  pub tests_one : (x : V) (cs : List (Expr V × Bool)) → Tests x cs
      → (c : Expr V × Bool) × IsOneOf cs c × Mentions x (out-Expr V c.0)
  tests_one x [] t = elim t [ ]
  tests_one x ((e, b) ∷ cs) (in_this m) = ((e, b), one_first (e, b) cs, m)
  tests_one x ((e, b) ∷ cs) (in_later t) = let r = tests_one x cs t in (r.0, one_rest (e, b) cs r.0 r.1, r.2)

  -- conditions pass by the facts of the variables that they name
  pub passes_named : {P Q : V → Value → Type 0} {cs : List (Expr V × Bool)}
      → ((x : V) (v : Value) → Tests x cs → P x v → Q x v) → PassesConditions P cs → PassesConditions Q cs
  passes_named k f.none = f.none
  passes_named k (f.one_and y p) =
      f.one_and (yields_named (λ x v n h. k x v (in_this n) h) y) (passes_named (λ x v n h. k x v (in_later n) h) p)

-- conditions that differ in their variables alone name related ones
pub tests_there : {V W : Type 0} {same : V → W → Type 0} {x : V} {es : List (Expr V × Bool)} {fs : List (Expr W × Bool)}
    → Conditions_rename same es fs → Tests x es → Mentioned same x (λ y. Tests y fs)
tests_there i.none t = elim t [ ]
tests_there {same = same} {x = x} (i.one_and q qs) (in_this m) =
    let n = mentions_carry same x m q in
    record { other = n.other; related = n.related; stands = in_this n.stands }
tests_there (i.one_and q qs) (in_later t) =
    let n = tests_there qs t in
    record { other = n.other; related = n.related; stands = in_later n.stands }
