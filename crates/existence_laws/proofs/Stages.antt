-- Stages that are answered, put together.
use Rattle.std.proofs.Common.{◌≡◌, ℕ, zero, suc, ◌<◌, ◌⊎◌, inl, inr, Bool, true, false, leb, List, Result, Ok, Err, refl, ◌∙◌, arith}
use Rattle.std.proofs.lemmas.Bool.{leb-true, leb-false}
use Rattle.ar_base.specs.Breach.{IsBroken, AreKept}
use Rattle.ar_base.specs.Counts.{limit_of}
use Rattle.ar_base.specs.Lists.{IsOneOf}
use Rattle.ar_base.specs.Stages.{Then, refuses, passes, Where, Keeps, kept, broken, Fits, fits, passes_it}
use Rattle.ar_base.specs.declared.counts.Count.{Count}
use Rattle.ar_base.specs.declared.faults.RuleFault.TheVariants.{Rule, Limit}
use Rattle.ar_base.specs.declared.places.Place.{Place}
use Rattle.existence_laws.specs.Answered.{HasAnswer}

-- a goal that is refuted may ask whether something is so
pub asks : {P : Type 0} → (P ⊎ (P → ⊥) → ⊥) → ⊥
asks k = k (inr (λ p. k (inl p)))

module _ {A B C R : Type 0} (first : A → Result B R → Type 0) (second : B → Result C R → Type 0) (a : A) where
  pub then_answered : HasAnswer (first a) → ((b : B) → first a (Ok b) → HasAnswer (second b))
      → HasAnswer (Then first second a)
  then_answered f s k = f by
    where
      by : (x : Result B R) → first a x → ⊥
      by (Err r) h = k (Err r) (refuses h)
      by (Ok b) h = s b h (λ x g. k x (passes b h g))

pub where_answered : {A R : Type 0} (test : Bool) (stage : A → Result A R → Type 0) (a : A) → HasAnswer (stage a)
    → HasAnswer (Where test stage a)
where_answered true stage a h k = h k
where_answered false stage a h k = k (Ok a) refl

pub fits_answered : {A : Type 0} (count : Count) (counted : A → ℕ) (a : A) → HasAnswer (Fits count counted a)
fits_answered count counted a k = go (leb (counted a) (limit_of count)) refl
  where
    go : (b : Bool) → leb (counted a) (limit_of count) ≡ b → ⊥
    go true e = k (Ok a) (fits (leb-true (counted a) (limit_of count) e))
    go false e = k (Err (Limit count)) (passes_it (leb-false (counted a) (limit_of count) e))

-- rules, none of which is the least that is broken at its earliest place, are kept
module _ (rules : List ℕ) (breaks : ℕ → Place → Type 0)
    (no_first : (r : ℕ) (p : Place) → IsBroken rules breaks r p → ⊥) where
  module _ (r : ℕ) (one : IsOneOf rules r)
      (lesser : (s : ℕ) (q : Place) → IsOneOf rules s → s < r → breaks s q → ⊥) where
    in_line : (line : ℕ) → ((q : Place) → q.line < line → breaks r q → ⊥) → (most n : ℕ) → n < most → (p : Place)
        → p.line ≡ line → p.column ≡ n → breaks r p → ⊥
    in_line line above zero n l p e f b = omega (arith, l)
    in_line line above (suc most) n l p e f b = no_first r p (record {
      is_one = one;
      breaks_there = b;
      no_lesser = lesser;
      no_earlier = λ q h c. elim h as (λ _. ⊥) [
        | inl m ↦ above q (omega (arith, m, e)) c
        | inr m ↦ (let i = m.1 in in_line line above most q.column (omega (arith, i, f, l)) q (m.0 ∙ e) refl c)
      ];
    })

    in_text : (most n : ℕ) → n < most → (p : Place) → p.line ≡ n → breaks r p → ⊥
    in_text zero n l p e b = omega (arith, l)
    in_text (suc most) n l p e b = in_line n (λ q m c. in_text most q.line (omega (arith, m, l)) q refl c) (suc p.column)
        p.column (omega arith) p e refl b

  by_rule : (most r : ℕ) → r < most → IsOneOf rules r → (p : Place) → breaks r p → ⊥
  by_rule zero r l one p b = omega (arith, l)
  by_rule (suc most) r l one p b = in_text r one (λ s q o m c. by_rule most s (omega (arith, m, l)) o q c)
      (suc p.line) p.line (omega arith) p refl b

  pub all_kept : AreKept rules breaks
  all_kept = record { kept = λ r p one b. by_rule (suc r) r (omega arith) one p b }

pub keeps_answered : {A : Type 0} (rules : List ℕ) (breaks : A → ℕ → Place → Type 0) (a : A)
    → HasAnswer (Keeps rules breaks a)
keeps_answered rules breaks a k =
    k (Ok a) (kept (all_kept rules (breaks a) (λ r p h. k (Err (Rule r p)) (broken h))))
