-- Building a list of operands, an operand at a time. S relates lists of operands and what is built for them, R an
-- operand and what is built for it.
use Rattle.std.proofs.Common.{◌≡◌, ℕ, suc, ◌<◌, List, [], ◌∷◌, ◌++◌, length, drop, sym, subst, append_assoc, append-nil}
use Rattle.eq_core.specs.Gates.{Gate}
use Rattle.eq_core.specs.ValuesInside.{GainsGates}
use Rattle.eq_build.proofs.Growing.{longer_on}

-- so many operands are built: what is built for the others goes behind it, and what is built for all comes by here
pub record SoFar {A B : Type 0} (S : List Gate → List A → List B → List Gate → Type 0) (g : List Gate) (xs : List A)
    (i : ℕ) (out : List B) (h : List Gate) : Type 0 where
  pub goes_on : (ys : List B) (k : List Gate) → S h (drop i xs) ys k → S g xs (out ++ ys) k
  pub comes_by : (ys : List B) (k : List Gate) → S g xs ys k → (rest : List B) × S h (drop i xs) rest k

-- the first operand of a list, and the rest
pub record Parted {A B : Type 0} (R : List Gate → A → B → List Gate → Type 0)
    (S : List Gate → List A → List B → List Gate → Type 0) (g : List Gate) (x : A) (xs : List A)
    (k : List Gate) : Type 0
  where
    pub first : B
    pub gates : List Gate
    pub builds : R g x first gates
    pub rest : List B
    pub builds_rest : S gates xs rest k

-- nothing is built so far
pub nothing_yet : {A B : Type 0} (S : List Gate → List A → List B → List Gate → Type 0) (g : List Gate) (xs : List A)
    → SoFar S g xs 0 [] g
nothing_yet S g xs = record { goes_on = λ ys k d. d; comes_by = λ ys k d. (ys, d) }

module _ {A B : Type 0} (R : List Gate → A → B → List Gate → Type 0)
    (S : List Gate → List A → List B → List Gate → Type 0)
    (cons : (g h k : List Gate) (x : A) (xs : List A) (y : B) (ys : List B) → R g x y h → S h xs ys k
    → S g (x ∷ xs) (y ∷ ys) k)
    (parted : (g k : List Gate) (x : A) (xs : List A) (ys : List B) → S g (x ∷ xs) ys k → Parted R S g x xs k)
    (same : (g h k : List Gate) (x : A) (y z : B) → R g x y h → R g x z k → h ≡ k)
    (more : (g k : List Gate) (xs : List A) (ys : List B) → S g xs ys k → GainsGates g k) where
  -- one more operand is built
  pub one_further : (g h k : List Gate) (xs : List A) (i : ℕ) (x : A) (y : B) (out : List B)
      → drop i xs ≡ x ∷ drop (suc i) xs → R h x y k → SoFar S g xs i out h → SoFar S g xs (suc i) (out ++ y ∷ []) k
  one_further g h k xs i x y out e r s = record {
    goes_on = λ ys l d.
        let whole = s.goes_on (y ∷ ys) l
        (subst (λ z. S h z (y ∷ ys) l) (sym e) (cons h k l x (drop (suc i) xs) y ys r d)) in
        subst (λ z. S g xs z l) (sym (append_assoc out (y ∷ []) ys)) whole;
    comes_by = λ ys l d.
        let c = s.comes_by ys l d in
        let p = parted h l x (drop (suc i) xs) c.0 (subst (λ z. S h z c.0 l) e c.1) in (
          p.rest,
          subst (λ z. S z (drop (suc i) xs) p.rest l) (sym (same h k p.gates x y p.first r p.builds))
              p.builds_rest,
        );
  }

  -- more gates for an operand are more for all
  pub operand_stops : (n : ℕ) (g h : List Gate) (xs : List A) (i : ℕ) (x : A) (out : List B)
      → drop i xs ≡ x ∷ drop (suc i) xs → SoFar S g xs i out h
      → ((y : B) (k : List Gate) → R h x y k → n < length k)
      → (ys : List B) (l : List Gate) → S g xs ys l → n < length l
  operand_stops n g h xs i x out e s f ys l d =
      let c = s.comes_by ys l d in
      let p = parted h l x (drop (suc i) xs) c.0 (subst (λ z. S h z c.0 l) e c.1) in
      longer_on (more p.gates l (drop (suc i) xs) p.rest p.builds_rest) (f p.first p.gates p.builds)

-- all operands are built
pub all_built : {A B : Type 0} (S : List Gate → List A → List B → List Gate → Type 0)
    → ((g : List Gate) → S g [] [] g) → (g h : List Gate) (xs : List A) (i : ℕ) (out : List B) → drop i xs ≡ []
    → SoFar S g xs i out h → S g xs out h
all_built S nil g h xs i out e s =
    subst (λ z. S g xs z h) (append-nil out) (s.goes_on [] h (subst (λ z. S h z [] h) (sym e) (nil h)))
