-- How many different numbers there are below one.
use Rattle.std.proofs.Common.{◌≡◌, ℕ, zero, suc, ◌<◌, ◌≤◌, ◌⊎◌, List, [], ◌∷◌, length, refl, sym, ◌∙◌, subst, inl, inr, arith}
use Rattle.std.proofs.lemmas.Bool.{cases_lt, cases_eq}
use Rattle.ar_base.specs.Lists.{IsOneOf, AreDifferent}
use Rattle.ar_base.proofs.Standing.{one_none, one_first, one_rest, one_cases}

-- no number stands twice
pub data AllDiffer : List ℕ → Type 0 where
  nothing : AllDiffer []
  new : {x : ℕ} {xs : List ℕ} → (IsOneOf xs x → ⊥) → AllDiffer xs → AllDiffer (x ∷ xs)

-- the same from what stands at places
pub all_differ : (xs : List ℕ) → AreDifferent xs → AllDiffer xs
all_differ [] d = nothing
all_differ (x ∷ xs) d =
    new (λ i. let e = d.one zero (suc i.place) x refl i.stands in absurd (omega (arith, e)))
    (all_differ xs (record { one = λ m n a s t. let e = d.one (suc m) (suc n) a s t in omega (arith, e) }))

-- the list without a number
pub record Without (n : ℕ) (xs : List ℕ) : Type 0 where
  pub rest : List ℕ
  pub differ : AllDiffer rest
  pub long : length xs ≤ suc (length rest)
  pub of : (y : ℕ) → IsOneOf rest y → IsOneOf xs y
  pub lacks : (y : ℕ) → IsOneOf rest y → y ≡ n → ⊥

pub take_out : (n : ℕ) (xs : List ℕ) → AllDiffer xs → Without n xs
take_out n [] d = record {
  rest = [];
  differ = nothing;
  long = omega arith;
  of = λ y i. i;
  lacks = λ y i e. one_none y i;
}
take_out n (x ∷ xs) (new f d) = by (take_out n xs d) (cases_eq x n)
  where
    by : Without n xs → (x ≡ n) ⊎ (x ≡ n → ⊥) → Without n (x ∷ xs)
    by r (inl e) = record {
      rest = xs;
      differ = d;
      long = omega arith;
      of = λ y i. one_rest x xs y i;
      lacks = λ y i k. f (subst (λ (z : ℕ). IsOneOf xs z) (k ∙ sym e) i);
    }
    by r (inr e) =
        record {
          rest = x ∷ r.rest;
          differ = new (λ i. f (r.of x i)) r.differ;
          long = let l = r.long in omega (arith, l);
          of = λ y i. elim (one_cases x r.rest y i)
              [ inl k ↦ subst (λ (z : ℕ). IsOneOf (x ∷ xs) z) k (one_first x xs) | inr j ↦ one_rest x xs y (r.of y j) ];
          lacks = λ y i k. elim (one_cases x r.rest y i) [ inl j ↦ e (j ∙ k) | inr j ↦ r.lacks y j k ];
        }

pub few : (n : ℕ) (xs : List ℕ) → AllDiffer xs → ((x : ℕ) → IsOneOf xs x → x < n) → length xs ≤ n
few zero [] d b = omega arith
few zero (x ∷ xs) d b = let l = b x (one_first x xs) in absurd (omega (arith, l))
few (suc n) xs d b =
    let r = take_out n xs d in
    let l = few n r.rest r.differ (λ y i. let m = b y (r.of y i) in elim (cases_lt y n) [ inl k ↦ k | inr k ↦ absurd (r.lacks y i (omega (arith, m, k))) ]) in
    let m = r.long in
    omega (arith, l, m)

-- there are no more different numbers below n than n
pub few_below : (n : ℕ) (xs : List ℕ) → AreDifferent xs → ((x : ℕ) → IsOneOf xs x → x < n) → length xs ≤ n
few_below n xs d b = few n xs (all_differ xs d) b
