-- Folds and sums that end at an operand that yields nothing.
use Rattle.std.proofs.Common.{◌≡◌, ℕ, Bool, List, [], ◌∷◌, ◌++◌, take, drop, Contains, is_some, Option, Some, None, Ok, false, refl, subst, sym}
use Rattle.std.proofs.lemmas.List.{take-append-drop}
use Rattle.domains.specs.declared.Value.{Value}
use Rattle.domains.specs.declared.Value.TheVariants.{Whole}
use Rattle.domains.proofs.Members.{nothing-in}
use Rattle.typed_expr.specs.Values.{sum_of}
use Rattle.typed_expr.specs.Folds.{fold_of}
use Rattle.typed_expr.specs.Yields.{Picks, Picks_parts}
use Rattle.typed_expr.specs.Yields as y
use Rattle.typed_expr.specs.Evaluating.{Folds, Sums}
use Rattle.typed_expr.specs.declared.expr.Expr.{Expr}
use Rattle.typed_expr.specs.declared.fold.Step.{Step}
use Rattle.typed_expr.proofs.SoFar.{FoldSoFar, SumSoFar}

-- one value of each of the first operands
picks-front : {V : Type 0} (facts : V → Value → Type 0) (xs ys : List (Expr V)) (vs : List Value)
    → Picks facts (xs ++ ys) vs → (ws : List Value) × Picks facts xs ws
picks-front facts [] ys vs d = ([], y.no_operand)
picks-front facts (x ∷ xs) ys [] d = elim d [ ]
picks-front facts (x ∷ xs) ys (v ∷ vs) (y.operand d ds) =
    let front = picks-front facts xs ys vs ds in
    (v ∷ front.0, y.operand d front.1)

-- one value of each of the first parts
parts-front : {V : Type 0} (facts : V → Value → Type 0) (xs ys : List (Bool × Expr V)) (vs : List (Bool × Value))
    → Picks_parts facts (xs ++ ys) vs → (ws : List (Bool × Value)) × Picks_parts facts xs ws
parts-front facts [] ys vs d = ([], y.no_part)
parts-front facts (x ∷ xs) ys [] d = elim d [ ]
parts-front facts (x ∷ xs) ys (v ∷ vs) (y.part d ds) =
    let front = parts-front facts xs ys vs ds in
    (v ∷ front.0, y.part d front.1)

-- without a limit, the operands after one that yields nothing are passed over
pub fold-stops-early : {V : Type 0} (facts : V → Value → Type 0) (most : Option ℕ) (s : Step) (first : Bool)
    (es : List (Expr V)) (i : ℕ) (set : List Value) → set ≡ [] → is_some most ≡ false
    → FoldSoFar facts most s first set es i → Folds facts most s (Ok set) es
fold-stops-early {V} facts None s first es i set none m f = (
  record {
    sound = λ v c. absurd (nothing-in v (subst (λ (l : List Value). Contains l v) none c));
    complete = λ v (vs, d, e).
        let front = picks-front facts (take i es) (drop i es) vs
        (subst (λ (l : List (Expr V)). Picks facts l vs) (sym (take-append-drop i es)) d) in
        absurd (nothing-in (Whole (fold_of s front.0)) (subst (λ (l : List Value). Contains l (Whole (fold_of s front.0))) none
        (f.exact.complete (Whole (fold_of s front.0)) (front.0, front.1, refl))));
  },
  f.keeps,
  λ w. w,
  λ w. w,
)
fold-stops-early facts (Some n) s first es i set none m f = cc

-- without a limit, the parts after one that yields nothing are passed over
pub sum-stops-early : {V : Type 0} (facts : V → Value → Type 0) (most : Option ℕ) (ps : List (Bool × Expr V)) (i : ℕ)
    (set : List Value) → set ≡ [] → is_some most ≡ false
    → SumSoFar facts most set ps i → Sums facts most (Ok set) ps
sum-stops-early {V} facts None ps i set none m f = (
  record {
    sound = λ v c. absurd (nothing-in v (subst (λ (l : List Value). Contains l v) none c));
    complete = λ v (vs, d, e).
        let front = parts-front facts (take i ps) (drop i ps) vs
        (subst (λ (l : List (Bool × Expr V)). Picks_parts facts l vs) (sym (take-append-drop i ps)) d) in
        absurd (nothing-in (Whole (sum_of front.0)) (subst (λ (l : List Value). Contains l (Whole (sum_of front.0))) none
        (f.exact.complete (Whole (sum_of front.0)) (front.0, front.1, refl))));
  },
  f.keeps,
  λ w. w,
  λ w. w,
)
sum-stops-early facts (Some n) ps i set none m f = cc
