-- No token of a text has the kind that no token has.
use Rattle.std.proofs.Common.{◌≡◌, ℕ, inl, inr, List, [], ◌∷◌, ◌++◌, length, map, refl, sym, ap, ◌∙◌, subst, arith}
use Rattle.std.specs.Prelude.{Some, ℤ, pos, ◌≤ℤ◌}
use Rattle.std.specs.Str.{bytes_eq}
use Rattle.std.proofs.lemmas.List.{append_cancel_right}
use Rattle.std.proofs.lemmas.List.Quantifiers.{position-Some}
use Rattle.ar_lexer.specs.declared.token.Token.{Token}
use Rattle.ar_lexer.specs.declared.token.TokenKind.{TokenKind}
use Rattle.ar_lexer.specs.Spelling.{signs, place_in, IsTextOfKind}
use Rattle.ar_lexer.specs.Tokens.{AreCut, AreTokens, end_of_text}
use Rattle.expression_grammar.specs.Words.{Tokens}
use Rattle.ar_parser.specs.Models.{token_of}
use Rattle.expression_grammar.specs.Results.{Plain}
use Rattle.ar_grammar.specs.Results.{AreUnsigned}
use Rattle.ar_lexer.specs.declared.token.TokenKind.TheVariants.{Whole}
use Rattle.std.proofs.lemmas.Int.{ints}

no_sign : (text : List ℕ) → place_in signs text ≡ Some 256 → ⊥
no_sign text h = let p = position-Some (λ entry. bytes_eq entry text) signs 256 [] h in let l : length signs ≡ 27 = refl in let q = p.0 in omega (arith, l, q)

plain_cut : (pieces : List (List ℕ)) (before' rest : List ℕ) (ts : List Token) (ls : Tokens)
    → AreCut before' pieces rest ts → map token_of ls ≡ ts → Plain ls
plain_cut pieces before' rest ts [] h e = tt
plain_cut [] before' rest ts (l ∷ ls) h e = let q : map token_of (l ∷ ls) ≡ [] = e ∙ h in absurd (cc)
plain_cut (piece ∷ pieces) before' rest ts (l ∷ ls) (inl h) e =
    plain_cut pieces (before' ++ piece) rest ts (l ∷ ls) h.1 e
plain_cut (piece ∷ pieces) before' rest ts (l ∷ ls) (inr h) e =
    let q : token_of l ∷ map token_of ls ≡ h.0 ∷ h.1 = e ∙ h.2 in
    let same : token_of l ≡ h.0 = cc in
    let more : map token_of ls ≡ h.1 = cc in (
      λ k. no_sign piece (subst (λ (j : TokenKind). IsTextOfKind j piece) (sym (ap (λ (t : Token). t.kind) same) ∙ k)
          h.3.of_kind.of_kind),
      plain_cut pieces (before' ++ piece) rest h.1 ls h.4 more,
    )

pub plain_tokens : (bytes : List ℕ) (ls : Tokens) → AreTokens bytes (map token_of ls ++ end_of_text bytes ∷ [])
    → Plain ls
plain_tokens bytes ls a = plain_cut a.pieces [] [] a.found ls a.cut
    (append_cancel_right (map token_of ls) a.found (end_of_text bytes ∷ []) a.all)

-- Nor has a whole number a sign.

no_sign_kind : (n : ℤ) (piece : List ℕ) → IsTextOfKind (Whole n) piece → pos 0 ≤ℤ n
no_sign_kind n piece h = subst (λ (z : ℤ). pos 0 ≤ℤ z) (sym h.2) (omega (arith, ints))

unsigned_cut : (pieces : List (List ℕ)) (before' rest : List ℕ) (ts : List Token) (ls : Tokens)
    → AreCut before' pieces rest ts → map token_of ls ≡ ts → AreUnsigned ls
unsigned_cut pieces before' rest ts [] h e = tt
unsigned_cut [] before' rest ts (l ∷ ls) h e = let q : map token_of (l ∷ ls) ≡ [] = e ∙ h in absurd (cc)
unsigned_cut (piece ∷ pieces) before' rest ts (l ∷ ls) (inl h) e =
    unsigned_cut pieces (before' ++ piece) rest ts (l ∷ ls) h.1 e
unsigned_cut (piece ∷ pieces) before' rest ts (l ∷ ls) (inr h) e =
    let q : token_of l ∷ map token_of ls ≡ h.0 ∷ h.1 = e ∙ h.2 in
    let same : token_of l ≡ h.0 = cc in
    let more : map token_of ls ≡ h.1 = cc in (
      λ n k. no_sign_kind n piece (subst (λ (j : TokenKind). IsTextOfKind j piece)
          (sym (ap (λ (t : Token). t.kind) same) ∙ k) h.3.of_kind.of_kind),
      unsigned_cut pieces (before' ++ piece) rest h.1 ls h.4 more,
    )

pub unsigned_tokens : (bytes : List ℕ) (ls : Tokens) → AreTokens bytes (map token_of ls ++ end_of_text bytes ∷ [])
    → AreUnsigned ls
unsigned_tokens bytes ls a = unsigned_cut a.pieces [] [] a.found ls a.cut
    (append_cancel_right (map token_of ls) a.found (end_of_text bytes ∷ []) a.all)
