-- Labels that end in `#` and a number.
use Rattle.std.proofs.Common.{◌≡◌, ◌+◌, ◌/◌, ◌%◌, ◌≤◌, ◌==◌, ◌||◌, ℕ, zero, suc, Bool, true, false, List, [], ◌∷◌, ◌++◌, decimal, nat_lt, if◌then◌else◌, refl, sym, ◌∙◌, subst, arith}
use Rattle.std.proofs.lemmas.Bool.{eqb-true}
use Rattle.std.specs.Fmt.{digits, digits_onto, digit_glyph}
use Rattle.job_inputs.specs.Reads.{has_mark}

mark_joined : (xs ys : List ℕ) → has_mark xs ≡ false → has_mark ys ≡ false → has_mark (xs ++ ys) ≡ false
mark_joined [] ys p q = q
mark_joined (x ∷ xs) ys p q = go (x == 35) (λ h. mark_joined xs ys h q) p
  where
    go : (b : Bool) → (has_mark xs ≡ false → has_mark (xs ++ ys) ≡ false) → (b || has_mark xs) ≡ false
        → (b || has_mark (xs ++ ys)) ≡ false
    go true more h = cc
    go false more h = more h

-- a mark in the text
mark_there : (xs ys : List ℕ) → has_mark (xs ++ (35 ∷ ys)) ≡ true
mark_there [] ys = refl
mark_there (x ∷ xs) ys = go (x == 35) (mark_there xs ys)
  where
    go : (b : Bool) → has_mark (xs ++ (35 ∷ ys)) ≡ true → (b || has_mark (xs ++ (35 ∷ ys))) ≡ true
    go true h = refl
    go false h = h

not_mark : (n : ℕ) → 48 ≤ n → (n == 35) ≡ false
not_mark n h = go (n == 35) refl
  where
    go : (b : Bool) → (n == 35) ≡ b → (n == 35) ≡ false
    go true e = absurd (let k : n ≡ 35 = eqb-true n 35 e in omega (arith, k))
    go false e = e

-- digits have no mark
onto_unmarked : (fuel n : ℕ) (acc : List ℕ) → has_mark acc ≡ false → has_mark (digits_onto fuel 10 false n acc) ≡ false
onto_unmarked zero n acc h = h
onto_unmarked (suc fuel) n acc h = go (n / 10 == 0)
    (onto_unmarked fuel (n / 10) (digit_glyph false (n % 10) ∷ acc) here)
  where
    glyph : (b : Bool) → nat_lt (n % 10) 10 ≡ b → ((if b then 48 + n % 10 else 87 + n % 10) == 35) ≡ false
    glyph true e = not_mark (48 + n % 10) (omega arith)
    glyph false e = not_mark (87 + n % 10) (omega arith)

    here : has_mark (digit_glyph false (n % 10) ∷ acc) ≡ false
    here = subst (λ (z : Bool). (z || has_mark acc) ≡ false) (sym (glyph (nat_lt (n % 10) 10) refl)) h

    go : (b : Bool) → has_mark (digits_onto fuel 10 false (n / 10) (digit_glyph false (n % 10) ∷ acc)) ≡ false
        → has_mark (if b then digit_glyph false (n % 10) ∷ acc
        else digits_onto fuel 10 false (n / 10) (digit_glyph false (n % 10) ∷ acc)) ≡ false
    go true more = here
    go false more = more

-- a number has no mark
pub decimal_unmarked : (k : ℕ) → has_mark (decimal k) ≡ false
unfolding digits
decimal_unmarked k = onto_unmarked 64 k [] refl

-- the text before the last mark, and the one behind it
pub last_mark : (xs us ys vs : List ℕ) → xs ++ (35 ∷ ys) ≡ us ++ (35 ∷ vs) → has_mark ys ≡ false → has_mark vs ≡ false
    → (xs ≡ us) × (ys ≡ vs)
last_mark [] [] ys vs e p q = (refl, cc)
last_mark [] (u ∷ us) ys vs e p q =
    let i : ys ≡ us ++ (35 ∷ vs) = cc in
    let k = subst (λ (z : List ℕ). has_mark z ≡ false) i p in
    let l = mark_there us vs in absurd (cc (sym k ∙ l))
last_mark (x ∷ xs) [] ys vs e p q =
    let i : xs ++ (35 ∷ ys) ≡ vs = cc in
    let k = subst (λ (z : List ℕ). has_mark z ≡ false) (sym i) q in
    let l = mark_there xs ys in absurd (cc (sym k ∙ l))
last_mark (x ∷ xs) (u ∷ us) ys vs e p q =
    let i : x ≡ u = cc in
    let j : xs ++ (35 ∷ ys) ≡ us ++ (35 ∷ vs) = cc in
    let r = last_mark xs us ys vs j p q in
    let f = r.0 in (cc, r.1)

-- no mark, no number behind one
pub unmarked : (label path : List ℕ) (ds : List ℕ) → has_mark label ≡ false → label ≡ path ++ (35 ∷ ds) → ⊥
unmarked label path ds h e = let k = subst (λ (z : List ℕ). has_mark z ≡ false) e h in let l = mark_there path ds in cc (sym k ∙ l)
