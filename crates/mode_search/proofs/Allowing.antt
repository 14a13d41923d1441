-- What a test of width says of the possible values of the variables.
use Rattle.std.proofs.Common.{◌≡◌, ℕ, Bool, true, false, not, List, length, Option, Some, None, MatchOption, Result, Ok, Err, IfOk, sym, subst}
use Rattle.std.specs.Option.{is_some}
use Rattle.ar_base.specs.declared.faults.Memory.{Memory}
use Rattle.ar_base.specs.Numbers.{VarId}
use Rattle.domains.specs.declared.Value.{Value}
use Rattle.typed_expr.specs.Possible.{IsWide}
use Rattle.typed_expr.specs.PairsInside.{turned_pairs}
use Rattle.typed_expr.specs.Rows.{Rows}
use Rattle.typed_expr.proofs.Renaming.{renames_turned}
use Rattle.typed_expr.specs.declared.expr.Expr.{Expr, out-Expr}
use Rattle.ar_meaning.specs.Facts.{Allows}
use Rattle.ar_meaning.specs.Found.{IsAnswer}
use Rattle.ar_firing.proofs.Widths.{wide_there}
use Rattle.gts_core.specs.View.{net_of, numbered}
use Rattle.gts_core.proofs.Numbering.{IsNumber, renames_numbered}
use Rattle.gts_core.specs.declared.system.GtsParts.{GtsParts}
use Rattle.gts_core.specs.Rows.{AreDomains, RowFacts, TestSays}
use Rattle.gts_core.proofs.Allowing.{there, back}

module _ (p : GtsParts) (rows : Rows) (a : AreDomains p (length p.variables.items) rows) where
  wide_on : (e : Expr VarId) → IsWide (RowFacts rows) 64 (out-Expr VarId e)
      → IsWide (Allows (net_of p)) 64 (out-Expr ℕ (numbered e))
  wide_on e h = wide_there IsNumber (RowFacts rows) (Allows (net_of p))
      (λ x n v i c. subst (λ (k : ℕ). Allows (net_of p) k v) i (there p rows a x.n v c)) (renames_numbered e) h

  wide_off : (e : Expr VarId) → IsWide (Allows (net_of p)) 64 (out-Expr ℕ (numbered e))
      → IsWide (RowFacts rows) 64 (out-Expr VarId e)
  wide_off e h = wide_there (turned_pairs IsNumber) (Allows (net_of p)) (RowFacts rows)
      (λ n x v i c. back p rows a x.n v (subst (λ (k : ℕ). Allows (net_of p) k v) (sym i) c))
      (renames_turned IsNumber (renames_numbered e)) h

  -- a set that was found says that nothing is too wide, and none that something is
  abbrev pub Narrow : Expr VarId → Option (List Value) → Type 0
  Narrow e None = IsWide (RowFacts rows) 64 (out-Expr VarId e)
  Narrow e (Some set) = IsWide (RowFacts rows) 64 (out-Expr VarId e) → ⊥

  pub wide_answer : (e : Expr VarId) (found : Option (List Value)) (b : Bool) → is_some found ≡ not b → Narrow e found
      → IsAnswer b (IsWide (Allows (net_of p)) 64 (out-Expr ℕ (numbered e)))
  wide_answer e None true i h = wide_on e h
  wide_answer e None false i h = absurd (cc i)
  wide_answer e (Some set) true i h = absurd (cc i)
  wide_answer e (Some set) false i h = λ w. h (wide_off e w)

  pub narrow_is : (e : Expr VarId) (found : Option (List Value)) (P : List Value → Type 0) (Q : Type 0)
      → MatchOption found (IsWide (RowFacts rows) 64 (out-Expr VarId e)) P
      → MatchOption found Q (λ set. IsWide (RowFacts rows) 64 (out-Expr VarId e) → ⊥) → Narrow e found
  narrow_is e None P Q h k = h
  narrow_is e (Some set) P Q h k = k

-- what a success says, in another form
pub says_as : (rows : Rows) (P Q : GtsParts → Type 0) (r : Result Bool Memory)
    → ((p : GtsParts) → AreDomains p (length p.variables.items) rows → (b : Bool) → IsAnswer b (P p) → IsAnswer b (Q p))
    → IfOk r (TestSays rows P) → IfOk r (TestSays rows Q)
says_as rows P Q (Ok b) f h = λ p a. f p a b (h p a)
says_as rows P Q (Err e) f h = tt
