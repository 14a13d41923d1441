-- Which tokens a text is cut into, and where the first fault stands.
use Rattle.std.specs.Prelude.{◌≡◌, ℕ, ◌+◌, ◌<◌, ◌≤◌, ◌^◌, ◌⊎◌, Bool, true, not, ◌||◌, ◌==◌, List, [], ◌∷◌, ◌++◌, length, codes, count_by}
use Rattle.std.specs.List.{suffix_len}
use Rattle.ar_base.specs.declared.places.Place.{Place}
use Rattle.ar_lexer.specs.declared.token.Token.{Token}
use Rattle.ar_lexer.specs.declared.token.TokenKind.{TokenKind}
use Rattle.ar_lexer.specs.declared.token.TokenKind.TheVariants.{End}
use Rattle.ar_lexer.specs.declared.token.LexFault.{LexFault}
use Rattle.ar_lexer.specs.declared.token.LexFault.TheVariants.{Byte, OpenComment, Number, Memory}
use Rattle.ar_lexer.specs.Spelling.{AllPass, IsDigits, number_of, IsTextOfKind, IsTokenText}

-- Places

abbrev pub is_line_feed : ℕ → Bool
is_line_feed b = b == 10

-- The place behind these bytes: the line is one more than the number of line feeds among them, the column is
-- one more than the number of bytes since the last line feed.
abbrev pub place_after : List ℕ → Place
place_after before = record {
  line = count_by is_line_feed before + 1;
  column = suffix_len (λ b. not (is_line_feed b)) before + 1;
}

-- Blanks and comments

-- space, tab, carriage return and line feed
abbrev pub is_blank : ℕ → Bool
is_blank b = (b == 32) || (b == 9) || (b == 13) || (b == 10)

-- the text ends here, or its line does
abbrev pub IsLineEnd : List ℕ → Type 0
IsLineEnd [] = Unit {0}
IsLineEnd (b ∷ bs) = is_line_feed b ≡ true

-- `*/` stands in the text with these bytes behind it
abbrev pub Closes : List ℕ → List ℕ → Type 0
Closes text back = (front : List ℕ) × (text ≡ front ++ (codes "*/" ++ back))

-- A blank or a comment, and `after` behind it.
pub data IsGap (gap after : List ℕ) : Type 0 where
  blank : (b : ℕ) → gap ≡ b ∷ [] → is_blank b ≡ true → IsGap gap after
  -- from `//` to the next line feed or the end of the text
  line_comment : (body : List ℕ) → gap ≡ codes "//" ++ body → AllPass (λ b. not (is_line_feed b)) body → IsLineEnd after
      → IsGap gap after
  -- from `/*` to the next `*/`
  block_comment : (body : List ℕ) → gap ≡ codes "/*" ++ (body ++ codes "*/")
      → ((back : List ℕ) → Closes (body ++ codes "*/") back → back ≡ []) → IsGap gap after

abbrev pub BeginsComment : List ℕ → Type 0
BeginsComment rest = (more : List ℕ) × ((rest ≡ codes "//" ++ more) ⊎ (rest ≡ codes "/*" ++ more))

-- Tokens

-- no longer front of the text and of what stands behind it is the text of a token
abbrev pub IsLongest : List ℕ → List ℕ → Type 0
IsLongest text after = (front back : List ℕ) → text ++ after ≡ front ++ back → IsTokenText front
    → length front ≤ length text

-- A token of this kind, with `after` behind it.
pub record IsTokenOf (kind : TokenKind) (text after : List ℕ) : Type 0 where
  pub of_kind : IsTextOfKind kind text
  pub longest : IsLongest text after
  pub no_comment : BeginsComment (text ++ after) → ⊥

-- The token that stands between `before` and `after`.
pub record IsToken (before text after : List ℕ) (t : Token) : Type 0 where
  pub of_kind : IsTokenOf t.kind text after
  pub from : t.span.from ≡ length before
  pub to : t.span.to ≡ length before + length text
  pub at : t.at ≡ place_after before

-- The pieces one behind the other, and then the rest.
abbrev pub joined_pieces : List (List ℕ) → List ℕ → List ℕ
joined_pieces [] rest = rest
joined_pieces (piece ∷ pieces) rest = piece ++ joined_pieces pieces rest

-- Behind `before` stand these pieces, and then the rest. Each piece is a blank, a comment or a token, and these are the
-- tokens.
abbrev pub AreCut : List ℕ → List (List ℕ) → List ℕ → List Token → Type 0
AreCut before [] rest ts = ts ≡ []
AreCut before (piece ∷ pieces) rest ts =
    (IsGap piece (joined_pieces pieces rest) × AreCut (before ++ piece) pieces rest ts)
    ⊎ ((t : Token) × (more : List Token) × (ts ≡ t ∷ more) × IsToken before piece (joined_pieces pieces rest) t
    × AreCut (before ++ piece) pieces rest more)

-- the token behind the whole text
abbrev pub end_of_text : List ℕ → Token
end_of_text text = record { kind = End; span = record { from = length text; to = length text }; at = place_after text }

-- These are the tokens of the text, and the last is its end.
pub record AreTokens (text : List ℕ) (ts : List Token) : Type 0 where
  pub pieces : List (List ℕ)
  pub found : List Token
  pub whole : text ≡ joined_pieces pieces []
  pub cut : AreCut [] pieces [] found
  pub all : ts ≡ found ++ end_of_text text ∷ []

-- Faults

-- no blank, comment or token begins here
pub record BeginsNothing (rest : List ℕ) : Type 0 where
  pub some : 0 < length rest
  pub no_blank : (b : ℕ) (more : List ℕ) → rest ≡ b ∷ more → is_blank b ≡ true → ⊥
  pub no_comment : BeginsComment rest → ⊥
  pub no_token : (front back : List ℕ) → rest ≡ front ++ back → IsTokenText front → ⊥

-- a comment begins here that is not closed
abbrev pub IsOpenComment : List ℕ → Type 0
IsOpenComment rest = (more : List ℕ) × (rest ≡ codes "/*" ++ more) × ((back : List ℕ) → Closes more back → ⊥)

-- the token that begins here is a whole number above 2^63 - 1
abbrev pub IsTooLarge : List ℕ → Type 0
IsTooLarge rest =
    (text : List ℕ) × (after : List ℕ) × (rest ≡ text ++ after) × IsDigits text × IsLongest text after
    × (2 ^ 63 ≤ number_of text)

-- what keeps any piece from standing behind `before`, and the place that is told
abbrev pub IsFault : List ℕ → List ℕ → LexFault → Type 0
IsFault before rest (Byte at) = BeginsNothing rest × (at ≡ place_after before)
IsFault before rest (OpenComment at) = IsOpenComment rest × (at ≡ place_after before)
IsFault before rest (Number at) = IsTooLarge rest × (at ≡ place_after before)
IsFault before rest Memory = ⊥

-- The first fault of the text: all before it are blanks, comments and tokens.
pub record IsFirstFault (text : List ℕ) (fault : LexFault) : Type 0 where
  pub pieces : List (List ℕ)
  pub found : List Token
  pub rest : List ℕ
  pub whole : text ≡ joined_pieces pieces rest
  pub cut : AreCut [] pieces rest found
  pub fault_there : IsFault (joined_pieces pieces []) rest fault
