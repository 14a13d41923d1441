-- Marks of variables, and the flows that are told.
use Rattle.std.proofs.Common.{◌≡◌, ◌<◌, ◌≤◌, ◌+◌, inl, inr, ℕ, zero, suc, Bool, true, false, List, [], ◌∷◌, ◌++◌, length, replicate, set, get_or, take, Option, Some, None, Result, Ok, Err, IfOk, Vec, Global, refl, sym, ap, ◌∙◌, subst, arith, length-set}
use Rattle.std.proofs.lemmas.Bool.{cases_eq}
use Rattle.std.proofs.lemmas.List.{take_more, take_all, map-append, length-replicate}
use Rattle.ar_base.specs.declared.faults.Memory.{Memory}
use Rattle.ar_base.specs.Lists.{Stands, IsOneOf}
use Rattle.ar_base.specs.Numbers.{VarId}
use Rattle.ar_base.proofs.Standing.{one_none, one_split, one_left, one_right, one_first, only_item}
use Rattle.typed_expr.specs.declared.expr.Expr.{Expr}
use Rattle.ar_meaning.specs.Found.{IsAnswer}
use Rattle.flow_reasons.specs.Reasons.{InCone}
use Rattle.flow_reasons.specs.ReasonsInside.{IsReasonCone}
use Rattle.flow_reasons.specs.Reasons as rounds
use Rattle.gts_core.specs.View.{net_of, numbered}
use Rattle.gts_core.specs.declared.system.Observer.{Observer}
use Rattle.gts_core.specs.declared.system.GtsParts.{GtsParts}
use Rattle.gts_core.proofs.Tests.{turned_answer}
use Rattle.flow_reasons.specs.Answers.{numbers_of}
use Rattle.reason_text.specs.Answers.{told_at, AreToldVariables, HasMarksAt, observed, value_found}

at_here : (marks : List Bool) (n : ℕ) → n < length marks → told_at (set marks n true) n ≡ true
at_here [] n l = absurd (omega (arith, l))
at_here (m ∷ marks) zero l = refl
at_here (m ∷ marks) (suc n) l = at_here marks n (omega (arith, l))

at_other : (marks : List Bool) (k n : ℕ) → (n ≡ k → ⊥) → told_at (set marks k true) n ≡ told_at marks n
at_other [] k n d = refl
at_other (m ∷ marks) zero zero d = absurd (d refl)
at_other (m ∷ marks) zero (suc n) d = refl
at_other (m ∷ marks) (suc k) zero d = refl
at_other (m ∷ marks) (suc k) (suc n) d = at_other marks k n (λ e. d (ap suc e))

-- so many marks
pub record AreSoFar (count : ℕ) (xs : List VarId) (marks : List Bool) : Type 0 where
  pub long : length marks ≡ count
  pub are : HasMarksAt count (numbers_of xs) marks

unset_at : (count n : ℕ) → told_at (replicate count false) n ≡ false
unset_at zero n = refl
unset_at (suc count) zero = refl
unset_at (suc count) (suc n) = unset_at count n

pub none_so_far : (count : ℕ) (marks : List Bool) → marks ≡ replicate count false → AreSoFar count [] marks
none_so_far count marks e = record {
  long = ap length e ∙ length-replicate count false;
  are = record {
    each = λ n i. subst (λ (b : Bool). IsAnswer b (IsOneOf [] n)) (sym (ap (λ z. told_at z n) e ∙ unset_at count n))
        (λ o. one_none n o);
  };
}

pub one_more : (count : ℕ) (xs : List VarId) (i : ℕ) (d : VarId) (old new : List Bool) → i < length xs
    → AreSoFar count (take i xs) old
    → new ≡ set old (get_or xs i d).n true → AreSoFar count (take (i + 1) xs) new
one_more count xs i d old new l h e = subst (λ (z : List Bool). AreSoFar count (take (i + 1) xs) z) (sym e) (record {
  long = length-set old (get_or xs i d).n true ∙ h.long;
  are = record {
    each = λ n below. subst
        (λ (z : List ℕ). IsAnswer (told_at (set old (get_or xs i d).n true) n) (IsOneOf z n)) (sym split) (at n below);
  };
})
  where
    split : numbers_of (take (i + 1) xs) ≡ numbers_of (take i xs) ++ (get_or xs i d).n ∷ []
    split = ap numbers_of (take_more xs i d l) ∙ map-append (λ (z : VarId). z.n) (take i xs) (get_or xs i d ∷ [])

    at : (n : ℕ) → n < count → IsAnswer (told_at (set old (get_or xs i d).n true) n)
        (IsOneOf (numbers_of (take i xs) ++ (get_or xs i d).n ∷ []) n)
    at n below = elim (cases_eq n (get_or xs i d).n) [
      | inl i' ↦ subst (λ (b : Bool). IsAnswer b (IsOneOf (numbers_of (take i xs) ++ (get_or xs i d).n ∷ []) n))
          (sym (ap (told_at (set old (get_or xs i d).n true)) i' ∙ at_here old (get_or xs i d).n (let k = h.long in omega (arith, k, below, i'))))
          (subst (λ z. IsOneOf (numbers_of (take i xs) ++ (get_or xs i d).n ∷ []) z) (sym i')
          (one_right (numbers_of (take i xs)) ((get_or xs i d).n ∷ []) (get_or xs i d).n
          (one_first (get_or xs i d).n [])))
      | inr k ↦ subst (λ (b : Bool). IsAnswer b (IsOneOf (numbers_of (take i xs) ++ (get_or xs i d).n ∷ []) n))
          (sym (at_other old (get_or xs i d).n n k))
          (turned_answer (told_at old n) (IsOneOf (numbers_of (take i xs)) n)
          (IsOneOf (numbers_of (take i xs) ++ (get_or xs i d).n ∷ []) n)
          (λ o. one_left (numbers_of (take i xs)) ((get_or xs i d).n ∷ []) n o)
          (λ o. elim (one_split (numbers_of (take i xs)) ((get_or xs i d).n ∷ []) n o)
          [ inl q ↦ q | inr q ↦ absurd (k (sym (only_item (get_or xs i d).n n q))) ])
          (h.are.each n below))
    ]

pub all_so_far : (count : ℕ) (xs : List VarId) (i : ℕ) (marks : List Bool) → length xs ≤ i
    → AreSoFar count (take i xs) marks → HasMarksAt count (numbers_of xs) marks
all_so_far count xs i marks l h = subst (λ (z : List VarId). HasMarksAt count (numbers_of z) marks) (take_all i xs l)
    h.are

-- without an observer all are told
set_at : (count n : ℕ) → n < count → told_at (replicate count true) n ≡ true
set_at zero n l = absurd (omega (arith, l))
set_at (suc count) zero l = refl
set_at (suc count) (suc n) l = set_at count n (omega (arith, l))

pub told_all : (p : GtsParts) (reasons : List rounds.Reason) (count : ℕ) (marks : List Bool)
    → count ≡ length p.variables.items → marks ≡ replicate count true
    → AreToldVariables p reasons None marks
told_all p reasons count marks e h = record {
  each = λ n l. subst (λ (b : Bool). IsAnswer b (Unit {0})) (sym (ap (λ z. told_at z n) h ∙ set_at count n (omega (arith, l, e)))) tt;
}

-- with one those of its cone
pub told_cone : (p : GtsParts) (reasons : List rounds.Reason) (n : ℕ) (o : Observer) (numbers : List ℕ) (count : ℕ)
    (marks : List Bool) → Stands p.observers.items n o
    → IsReasonCone (net_of p) reasons (numbered o.value) numbers → count ≡ length p.variables.items
    → HasMarksAt count numbers marks
    → AreToldVariables p reasons (observed p (Some n)) marks
told_cone p reasons n o numbers count marks s c e h =
    subst (λ (z : Option (Expr ℕ)). AreToldVariables p reasons z marks) (sym (ap value_found s)) (record {
      each = λ k l. turned_answer (told_at marks k) (IsOneOf numbers k) (InCone (net_of p) reasons (numbered o.value) k)
          (λ i. c.sound k i) (λ i. c.whole k i)
          (h.each k (omega (arith, l, e)));
    })

pub marks_as : (P Q : Vec Bool Global → Type 0) (r : Result (Vec Bool Global) Memory)
    → ((v : Vec Bool Global) → P v → Q v) → IfOk r P → IfOk r Q
marks_as P Q (Ok v) f h = f v h
marks_as P Q (Err e) f h = tt
