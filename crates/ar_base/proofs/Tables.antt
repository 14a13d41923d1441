-- The texts of a table and their numbers.
use Rattle.std.proofs.Common.{◌≡◌, ℕ, ◌+◌, ◌⊎◌, Bool, true, false, List, [], ◌∷◌, ◌++◌, length, Option, Some, None, if◌then◌else◌, inl, inr, refl, sym, ap, ◌∙◌, subst, arith}
use Rattle.std.specs.Str.{IsUtf8, bytes_eq}
use Rattle.std.proofs.lemmas.Slice.Eq.{bytes_eq-Decides}
use Rattle.ar_base.specs.Lists.{Stands, HasNo, AreDifferent}
use Rattle.ar_base.specs.TextsInside.{AreUtf8, NumbersTexts}
use Rattle.ar_base.proofs.Standing.{stands_left, stands_split, stands_next, stands_alone}

module _ (texts : List (List ℕ)) (number_of : List ℕ → Option ℕ) (h : NumbersTexts texts number_of) where
  -- a text without a number is none of the table
  pub lacks : (t : List ℕ) → number_of t ≡ None → HasNo texts (λ x. x ≡ t)
  lacks t e = record {
    has_not = λ n x p same.
        let placed : number_of x ≡ Some n = h.placed x n p in
        let none : number_of x ≡ None = ap number_of same ∙ e in
        cc;
  }

  -- no text stands at two places, since it has one number
  pub differ : AreDifferent texts
  differ = record {
    one = λ m n x p q.
        let first : number_of x ≡ Some m = h.placed x m p in
        let second : number_of x ≡ Some n = h.placed x n q in
        cc;
  }

  -- a new text has the next number
  pub numbered_more : (t : List ℕ) (new : List ℕ → Option ℕ) → HasNo texts (λ x. x ≡ t)
      → ((x : List ℕ) → new x ≡ (if bytes_eq t x then Some (length texts) else number_of x))
      → NumbersTexts (texts ++ t ∷ []) new
  numbered_more t new is_new entered = record {
    found = λ x n e. found x n e (bytes_eq t x) refl;
    placed = λ x n p. placed x n (stands_split texts (t ∷ []) n x p);
  }
    where
      known : (x : List ℕ) (b : Bool) → bytes_eq t x ≡ b → new x ≡ (if b then Some (length texts) else number_of x)
      known x b is = entered x ∙ ap (λ (c : Bool). if c then Some (length texts) else number_of x) is

      found : (x : List ℕ) (n : ℕ) → new x ≡ Some n → (b : Bool) → bytes_eq t x ≡ b → Stands (texts ++ t ∷ []) n x
      found x n e true is =
          let last : new x ≡ Some (length texts) = known x true is in
          let place : length texts ≡ n = cc in
          subst (λ (y : List ℕ). Stands (texts ++ t ∷ []) n y) ((bytes_eq-Decides t x).0 is)
          (subst (λ (k : ℕ). Stands (texts ++ t ∷ []) k t) place (stands_next texts t []))
      found x n e false is = stands_left texts (t ∷ []) n x (h.found x n (sym (known x false is) ∙ e))

      before : (x : List ℕ) (n : ℕ) → Stands texts n x → (b : Bool) → bytes_eq t x ≡ b → new x ≡ Some n
      before x n p true is = absurd (is_new.has_not n x p (sym ((bytes_eq-Decides t x).0 is)))
      before x n p false is = known x false is ∙ h.placed x n p

      placed : (x : List ℕ) (n : ℕ)
          → Stands texts n x ⊎ ((k : ℕ) × (n ≡ length texts + k) × Stands (t ∷ []) k x) → new x ≡ Some n
      placed x n (inl p) = before x n p (bytes_eq t x) refl
      placed x n (inr p) =
          let one = stands_alone t p.0 x p.2 in
          let place : length texts ≡ n = omega (arith, p.1, one.0) in
          known x true ((bytes_eq-Decides t x).1 (sym one.1)) ∙ ap (λ (k : ℕ). Some k) place

-- the texts with one more are in UTF-8
pub utf8_more : (texts : List (List ℕ)) (t : List ℕ) → AreUtf8 texts → IsUtf8 t → AreUtf8 (texts ++ t ∷ [])
utf8_more texts t u is = record {
  each = λ n x p. elim (stands_split texts (t ∷ []) n x p) [
    | inl q ↦ u.each n x q
    | inr q ↦ subst IsUtf8 (sym (stands_alone t q.0 x q.2).1) is
  ];
}
