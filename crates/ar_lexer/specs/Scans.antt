-- What the functions that look at the front of a text say.
use Rattle.std.specs.Prelude.{Bool, true, ◌≡◌, ℕ, ◌+◌, ◌<◌, ◌≤◌, List, [], ◌∷◌, ◌++◌, length, take, drop, Option, Some, None, cond, ◌==◌, ◌||◌}
use Rattle.ar_base.specs.declared.places.Place.{Place}
use Rattle.ar_lexer.specs.declared.token.Token.{Token}
use Rattle.ar_lexer.specs.declared.token.TokenKind.{TokenKind}
use Rattle.ar_lexer.specs.declared.piece.Piece.{Piece}
use Rattle.ar_lexer.specs.declared.piece.Piece.TheVariants.{Gap, Text, OpenComment, TooLarge, Nothing}
use Rattle.ar_lexer.specs.Spelling.{place_in, signs}
use Rattle.ar_lexer.specs.Tokens.{place_after, IsGap, IsTokenOf, Closes, IsOpenComment, IsTooLarge, BeginsNothing}

-- The first n bytes are P, or n is 0, and no longer front is P.
pub record IsLongestFront (P : List ℕ → Type 0) (bytes : List ℕ) (n : ℕ) : Type 0 where
  pub within : n ≤ length bytes
  pub is : 0 < n → P (take n bytes)
  pub none_longer : (front back : List ℕ) → bytes ≡ front ++ back → P front → length front ≤ n

-- the first `*/` stands behind n bytes
pub record ClosesFirst (bytes : List ℕ) (n : ℕ) : Type 0 where
  pub within : n + 2 ≤ length bytes
  pub closed : Closes (take (n + 2) bytes) []
  pub first : (back : List ℕ) → Closes (take (n + 2) bytes) back → back ≡ []

-- the first n bytes are the longest sign at the front, and it has this place
pub record IsSignFront (bytes : List ℕ) (place n : ℕ) : Type 0 where
  pub within : n ≤ length bytes
  pub is : place_in signs (take n bytes) ≡ Some place
  pub none_longer : (front back : List ℕ) (p : ℕ) → bytes ≡ front ++ back → place_in signs front ≡ Some p
      → length front ≤ n

-- what stands at the front of the text
abbrev pub IsPieceAt : List ℕ → Piece → Type 0
IsPieceAt rest (Gap n) = (n ≤ length rest) × (1 ≤ n) × IsGap (take n rest) (drop n rest)
IsPieceAt rest (Text kind n) = (n ≤ length rest) × (1 ≤ n) × IsTokenOf kind (take n rest) (drop n rest)
IsPieceAt rest OpenComment = IsOpenComment rest
IsPieceAt rest TooLarge = IsTooLarge rest
IsPieceAt rest Nothing = BeginsNothing rest

-- Behind these bytes the place `old` has become `new`.
abbrev pub MovesPlace : List ℕ → Place → Place → Type 0
MovesPlace passed old new = (before : List ℕ) → old ≡ place_after before → new ≡ place_after (before ++ passed)

-- a token of this kind and so many bytes
pub record IsTokenAt (start : ℕ) (place : Place) (wanted : TokenKind) (len : ℕ) (t : Token) : Type 0 where
  pub kind : t.kind ≡ wanted
  pub from : t.span.from ≡ start
  pub to : t.span.to ≡ start + len
  pub at : t.at ≡ place

-- one byte where a `+` or a `-` stands at the front, and none elsewhere
abbrev pub sign_len : List ℕ → ℕ
sign_len [] = 0
sign_len (b ∷ bs) = cond ((b == 43) || (b == 45)) 1 0

-- what a look at one length for a sign says
abbrev pub IsSignOfLen : List ℕ → ℕ → Option ℕ → Type 0
IsSignOfLen rest len None = (front back : List ℕ) (p : ℕ) → rest ≡ front ++ back → length front ≡ len
    → place_in signs front ≡ Some p → ⊥
IsSignOfLen rest len (Some place) = (len ≤ length rest) × (place_in signs (take len rest) ≡ Some place)

-- there is a first byte, and it passes the test
abbrev pub HeadPasses : (ℕ → Bool) → List ℕ → Type 0
HeadPasses test [] = ⊥
HeadPasses test (b ∷ bs) = test b ≡ true

-- `e` or `E`
abbrev pub is_exponent_mark : ℕ → Bool
is_exponent_mark b = (b == 101) || (b == 69)
