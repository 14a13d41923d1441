-- Whether the list of operands of a form is empty.
use Rattle.std.proofs.Common.{◌≡◌, ◌↔◌, IsTrue, ℕ, ◌<◌, ◌==◌, Bool, true, false, not, sym, ap, ◌∙◌, subst, arith, eqb-true}
use Rattle.std.proofs.lemmas.Bool.Decides.{nat_tests}
use Rattle.ar_syntax.specs.declared.expressions.RawExpr.{RawExpr}
use Rattle.written_forms.specs.Operands.{RawLevel, level_of, HasOperands}

-- a form without a list of operands
pub none_needed : (e : RawExpr) (l : RawLevel) → level_of e ≡ l → HasOperands l → IsTrue true ↔ HasOperands (level_of e)
none_needed e l q h = (λ t. subst HasOperands (sym q) h, λ k. (let e : true ≡ true = cc in e))

some_by : (n : ℕ) (empty : Bool) → empty ≡ (n == 0) → IsTrue (not empty) ↔ (0 < n)
some_by n true q = (λ t. cc, λ l. let e : n ≡ 0 = eqb-true n 0 (sym q) in absurd (omega (arith, l, e)))
some_by n false q =
    (λ t. let e : (n == 0) ≡ false = sym q in grind (arith, nat_tests), λ l. (let e : true ≡ true = cc in e))

-- a form with one of this length
pub some_needed : (e : RawExpr) (l : RawLevel) (k n : ℕ) (empty : Bool) → level_of e ≡ l → HasOperands l ≡ (0 < n)
    → empty ≡ (k == 0) → k ≡ n → IsTrue (not empty) ↔ HasOperands (level_of e)
some_needed e l k n empty q same h long =
    subst (λ (P : Type 0). IsTrue (not empty) ↔ P) (sym (ap HasOperands q ∙ same))
    (some_by n empty (h ∙ ap (λ (j : ℕ). j == 0) long))
