-- Texts that are cut into pieces, piece by piece.
use Rattle.std.proofs.Common.{◌≡◌, ℕ, inl, inr, List, [], ◌∷◌, ◌++◌, refl, sym, ap, ◌∙◌, subst, append_assoc}
use Rattle.std.proofs.lemmas.List.{append-nil}
use Rattle.ar_lexer.specs.declared.token.Token.{Token}
use Rattle.ar_lexer.specs.Tokens.{IsGap, IsToken, joined_pieces, AreCut}

pub joined_push : (ps : List (List ℕ)) (p rest : List ℕ) → joined_pieces (ps ++ p ∷ []) rest ≡ joined_pieces ps
    (p ++ rest)
joined_push [] p rest = refl
joined_push (q ∷ ps) p rest = ap (λ (s : List ℕ). q ++ s) (joined_push ps p rest)

pub joined_split : (ps : List (List ℕ)) (rest : List ℕ) → joined_pieces ps rest ≡ joined_pieces ps [] ++ rest
joined_split [] rest = refl
joined_split (q ∷ ps) rest = ap (λ (s : List ℕ). q ++ s) (joined_split ps rest)
    ∙ sym (append_assoc q (joined_pieces ps []) rest)

pub joined_last : (ps : List (List ℕ)) (p : List ℕ) → joined_pieces (ps ++ p ∷ []) [] ≡ joined_pieces ps [] ++ p
joined_last ps p = joined_push ps p [] ∙ joined_split ps (p ++ [])
    ∙ ap (λ (s : List ℕ). joined_pieces ps [] ++ s) (append-nil p)

pub cut_gap : (before : List ℕ) (ps : List (List ℕ)) (p rest : List ℕ) (ts : List Token)
    → AreCut before ps (p ++ rest) ts → IsGap p rest → AreCut before (ps ++ p ∷ []) rest ts
cut_gap before [] p rest ts h gap = inl (gap, h)
cut_gap before (q ∷ ps) p rest ts (inl h) gap =
    inl (subst (IsGap q) (sym (joined_push ps p rest)) h.0, cut_gap (before ++ q) ps p rest ts h.1 gap)
cut_gap before (q ∷ ps) p rest ts (inr h) gap =
    inr (
      h.0,
      h.1,
      h.2,
      subst (λ (s : List ℕ). IsToken before q s h.0) (sym (joined_push ps p rest)) h.3,
      cut_gap
          (before ++ q) ps p rest h.1 h.4 gap,
    )

pub cut_token : (before : List ℕ) (ps : List (List ℕ)) (p rest : List ℕ) (ts : List Token) (t : Token)
    → AreCut before ps (p ++ rest) ts → IsToken (before ++ joined_pieces ps []) p rest t
    → AreCut before (ps ++ p ∷ []) rest (ts ++ t ∷ [])
cut_token before [] p rest ts t h token =
    inr (
      t,
      [],
      ap (λ (xs : List Token). xs ++ t ∷ []) h,
      subst (λ (s : List ℕ). IsToken s p rest t) (append-nil before)
          token,
      refl,
    )
cut_token before (q ∷ ps) p rest ts t (inl h) token =
    inl (
      subst (IsGap q) (sym (joined_push ps p rest)) h.0,
      cut_token (before ++ q) ps p rest ts t h.1
          (subst (λ (s : List ℕ). IsToken s p rest t) (sym (append_assoc before q (joined_pieces ps []))) token),
    )
cut_token before (q ∷ ps) p rest ts t (inr h) token =
    inr (
      h.0,
      h.1 ++ t ∷ [],
      ap (λ (xs : List Token). xs ++ t ∷ []) h.2,
      subst (λ (s : List ℕ). IsToken before q s h.0) (sym (joined_push ps p rest)) h.3,
      cut_token (before ++ q) ps p rest h.1 t h.4
          (subst (λ (s : List ℕ). IsToken s p rest t) (sym (append_assoc before q (joined_pieces ps []))) token),
    )
