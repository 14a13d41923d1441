-- The answers of the grammar's stage, pair by pair.
use Rattle.std.proofs.Common.{◌≡◌, ℕ, inl, inr, List, [], ◌∷◌, ◌++◌, Result, refl, sym, ◌∙◌, ap, subst, arith}
use Rattle.ar_base.specs.declared.places.Place.{Place}
use Rattle.ar_base.specs.Counts.{limit_of}
use Rattle.ar_base.specs.declared.counts.Count.TheVariants.{Nesting}
use Rattle.ar_lexer.specs.declared.token.TokenKind.TheVariants.{End}
use Rattle.expression_grammar.specs.Words.{Tokens, place_at}
use Rattle.ar_grammar.specs.Texts.{IsSyntaxAt, IsDepthAt, FitsNesting, Viable}
use Rattle.expression_grammar.specs.Results.{Plain}
use Rattle.ar_grammar.proofs.Filling.{viable_of}
use Rattle.ar_grammar.proofs.ItemParts.{turns_items}
use Rattle.ar_grammar.proofs.Places.{IsRefusal, one_refusal, not_both, text_stands}
use Rattle.ar_parser.specs.Models.{AreLexemes, HasFaultAt, Reads, IsRefusedAt}
use Rattle.ar_parser.proofs.NameLemmas.{one_lexing, no_fault_there, one_fault_place}
use Rattle.ar_parser.proofs.PlainTexts.{plain_tokens}
use Rattle.parser_laws.specs.Models.{HasOneTree, SameModel}
use Rattle.ar_syntax.specs.declared.items.Model.{Model}
use Rattle.job_stages.specs.Elaborates.{Parses, reads, no_tokens, no_reading, too_deep}
use Rattle.job_stages.specs.declared.refusals.Refusal.{Refusal}
use Rattle.job_stages.specs.declared.refusals.Refusal.TheVariants.{Syntax}
use Rattle.source_laws.specs.Answers.{SameAnswer}

-- a text without tokens has none that are refused, or read
no_refusal : (text : List ℕ) (P : Tokens → Tokens → Type 0) (p q : Place) → HasFaultAt text p → IsRefusedAt P text q
    → ⊥
no_refusal text P p q f s = no_fault_there text (s.front ++ s.rest) s.names s.end p s.are f

-- the tokens of a text are one list
same_tokens : (text : List ℕ) (P Q : Tokens → Tokens → Type 0) (p q : Place) (s : IsRefusedAt P text p)
    (t : IsRefusedAt Q text q) → s.front ++ s.rest ≡ t.front ++ t.rest
same_tokens text P Q p q s t =
    one_lexing text (s.front ++ s.rest) (t.front ++ t.rest) s.names t.names s.end t.end s.are t.are

-- two refusals of them stand between the same tokens
same_parts : (text : List ℕ) (n : ℕ) (P Q : Tokens → Tokens → Type 0) (p q : Place) (s : IsRefusedAt P text p)
    (t : IsRefusedAt Q text q)
    → IsRefusal n s.front s.rest → IsRefusal n t.front t.rest → (s.front ≡ t.front) × (s.rest ≡ t.rest)
same_parts text n P Q p q s t a b =
    one_refusal n [] s.front s.rest t.front t.rest (plain_tokens text (s.front ++ s.rest) s.are.tokens)
    (same_tokens text P Q p q s t) a b

-- and so at one place
same_place : (text : List ℕ) (n : ℕ) (p q : Place) (s : IsRefusedAt (IsSyntaxAt n) text p)
    (t : IsRefusedAt (IsSyntaxAt n) text q) → p ≡ q
same_place text n p q s t =
    let e = same_parts text n (IsSyntaxAt n) (IsSyntaxAt n) p q s t (inl s.told) (inl t.told) in
    s.there ∙ ap (place_at s.end) e.1
    ∙ ap (λ (x : Place). place_at x t.rest) (s.are.end_is ∙ sym t.are.end_is) ∙ sym t.there

-- for the syntax or for the nesting, and not for both
not_two : (text : List ℕ) (n : ℕ) (p q : Place) → IsRefusedAt (IsSyntaxAt n) text p → IsRefusedAt (IsDepthAt n) text q
    → ⊥
not_two text n p q s t =
    let e = same_parts text n (IsSyntaxAt n) (IsDepthAt n) p q s t (inl s.told) (inr t.told) in
    not_both n t.front t.rest
    (subst (λ (y : Tokens). IsSyntaxAt n t.front y) e.1 (subst (λ (y : Tokens). IsSyntaxAt n y s.rest) e.0 s.told))
    t.told

-- and what is read is not refused
not_read : (text : List ℕ) (P : Tokens → Tokens → Type 0) (m : Model) (q : Place) → Reads text m
    → (s : IsRefusedAt P text q) → IsRefusal (limit_of Nesting) s.front s.rest → ⊥
not_read text P m q r s a =
    text_stands (limit_of Nesting) r.lexemes s.front s.rest (plain_tokens text r.lexemes r.are.tokens)
    (turns_items (limit_of Nesting) (limit_of Nesting) (omega arith) m.items.items End End r.lexemes r.items)
    (one_lexing text r.lexemes (s.front ++ s.rest) m.names s.names m.end s.end r.are s.are) a

-- the answers of the grammar's stage for one text
module _ (text : List ℕ) (one : HasOneTree text) where
  pub parses_one : (x y : Result Model Refusal) → Parses text x → Parses text y → SameAnswer SameModel x y
  parses_one x y (reads {m = m} h) (reads {m = n} k) = one (limit_of Nesting) m n h k
  parses_one x y (reads {m = m} h) (no_tokens {p = p} k) = no_fault_there text h.lexemes m.names m.end p h.are k
  parses_one x y (reads {m = m} h) (no_reading {p = p} k) =
      not_read text (IsSyntaxAt (limit_of Nesting)) m p h k (inl k.told)
  parses_one x y (reads {m = m} h) (too_deep {p = p} k) =
      not_read text (IsDepthAt (limit_of Nesting)) m p h k (inr k.told)
  parses_one x y (no_tokens {p = p} h) (reads {m = m} k) = no_fault_there text k.lexemes m.names m.end p k.are h
  parses_one x y (no_tokens {p = p} h) (no_tokens {p = q} k) = ap Syntax (one_fault_place text p q h k)
  parses_one x y (no_tokens {p = p} h) (no_reading {p = q} k) =
      absurd (no_refusal text (IsSyntaxAt (limit_of Nesting)) p q h k)
  parses_one x y (no_tokens {p = p} h) (too_deep {p = q} k) =
      absurd (no_refusal text (IsDepthAt (limit_of Nesting)) p q h k)
  parses_one x y (no_reading {p = p} h) (reads {m = m} k) =
      not_read text (IsSyntaxAt (limit_of Nesting)) m p k h (inl h.told)
  parses_one x y (no_reading {p = p} h) (no_tokens {p = q} k) =
      absurd (no_refusal text (IsSyntaxAt (limit_of Nesting)) q p k h)
  parses_one x y (no_reading {p = p} h) (no_reading {p = q} k) = ap Syntax (same_place text (limit_of Nesting) p q h k)
  parses_one x y (no_reading {p = p} h) (too_deep {p = q} k) = absurd (not_two text (limit_of Nesting) p q h k)
  parses_one x y (too_deep {p = p} h) (reads {m = m} k) =
      not_read text (IsDepthAt (limit_of Nesting)) m p k h (inr h.told)
  parses_one x y (too_deep {p = p} h) (no_tokens {p = q} k) =
      absurd (no_refusal text (IsDepthAt (limit_of Nesting)) q p k h)
  parses_one x y (too_deep {p = p} h) (no_reading {p = q} k) = absurd (not_two text (limit_of Nesting) q p k h)
  parses_one x y (too_deep h) (too_deep k) = refl

-- Fronts

front_plain : (front rest : Tokens) → Plain (front ++ rest) → Plain front
front_plain [] rest p = tt
front_plain (t ∷ front) rest p = (p.0, front_plain front rest p.1)

pub fitting_viable : (text : List ℕ) (front rest : Tokens) (names : List (List ℕ)) (end : Place)
    → AreLexemes text (front ++ rest) names end → (n : ℕ) → FitsNesting n front → Viable front
fitting_viable text front rest names end a n f =
    viable_of n front f.more (front_plain front rest (plain_tokens text (front ++ rest) a.tokens)) f.reads
