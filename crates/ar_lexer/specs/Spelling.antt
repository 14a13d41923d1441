-- What the text of a token is, kind by kind.
use Rattle.std.specs.Prelude.{◌≡◌, ℕ, ◌+◌, ◌-◌, ◌*◌, ◌^◌, ◌<◌, ◌⊎◌, Bool, true, ◌||◌, ◌==◌, List, [], ◌∷◌, ◌++◌, Option, Some, None, position, pos, codes}
use Rattle.std.specs.Char.{is_ascii_digit, is_ascii_alphabetic}
use Rattle.std.specs.List.{AllByRecursion}
use Rattle.std.specs.Str.{bytes_eq}
use Rattle.ar_lexer.specs.declared.token.TokenKind.{TokenKind}
use Rattle.ar_lexer.specs.declared.token.TokenKind.TheVariants.{Name, Whole, Real, Sign, Reserved, End}

abbrev pub signs : List (List ℕ)
signs =
    codes "{" ∷ codes "}" ∷ codes "[" ∷ codes "]" ∷ codes "(" ∷ codes ")" ∷ codes "," ∷ codes ";" ∷
    codes ":" ∷ codes "." ∷ codes "=" ∷ codes ":=" ∷ codes "==" ∷ codes "!=" ∷ codes "<" ∷ codes "<=" ∷
    codes ">" ∷ codes ">=" ∷ codes "+" ∷ codes "-" ∷ codes "*" ∷ codes "/" ∷ codes "->" ∷ codes "!" ∷
    codes "?" ∷ codes "&" ∷ codes ":=:" ∷ []

abbrev pub reserved_words : List (List ℕ)
reserved_words =
    codes "and" ∷ codes "as" ∷ codes "assertion" ∷ codes "block" ∷ codes "Boolean" ∷ codes "case" ∷
    codes "class" ∷ codes "clones" ∷ codes "count" ∷ codes "default" ∷ codes "domain" ∷ codes "else" ∷
    codes "embeds" ∷ codes "end" ∷ codes "event" ∷ codes "extends" ∷ codes "false" ∷ codes "hide" ∷
    codes "if" ∷ codes "init" ∷ codes "Integer" ∷ codes "main" ∷ codes "max" ∷ codes "min" ∷ codes "not" ∷
    codes "observer" ∷ codes "or" ∷ codes "owner" ∷ codes "parameter" ∷ codes "Real" ∷ codes "reset" ∷
    codes "skip" ∷ codes "switch" ∷ codes "then" ∷ codes "transition" ∷ codes "true" ∷ []

-- the place of a text in a table
abbrev pub place_in : List (List ℕ) → List ℕ → Option ℕ
place_in table text = position (λ entry. bytes_eq entry text) table

abbrev pub AllPass : (ℕ → Bool) → List ℕ → Type 0
AllPass test = AllByRecursion (λ b. test b ≡ true)

-- a letter or `_`
abbrev pub is_letter : ℕ → Bool
is_letter b = is_ascii_alphabetic b || (b == 95)

abbrev pub is_word_byte : ℕ → Bool
is_word_byte b = is_letter b || is_ascii_digit b

-- a letter or `_`, and then letters, digits and `_`
abbrev pub IsWord : List ℕ → Type 0
IsWord [] = ⊥
IsWord (b ∷ bs) = (is_letter b ≡ true) × AllPass is_word_byte bs

-- one or more digits
abbrev pub IsDigits : List ℕ → Type 0
IsDigits [] = ⊥
IsDigits (b ∷ bs) = AllPass is_ascii_digit (b ∷ bs)

-- the number that digits stand for, behind digits that stand for n
abbrev pub number_after : ℕ → List ℕ → ℕ
number_after n [] = n
number_after n (b ∷ bs) = number_after (10 * n + (b - 48)) bs

abbrev pub number_of : List ℕ → ℕ
number_of = number_after 0

-- `.` and digits
abbrev pub IsFraction : List ℕ → Type 0
IsFraction text = (digits : List ℕ) × (text ≡ codes "." ++ digits) × IsDigits digits

-- nothing, `+` or `-`
abbrev pub IsOptionalSign : List ℕ → Type 0
IsOptionalSign text = (text ≡ []) ⊎ ((text ≡ codes "+") ⊎ (text ≡ codes "-"))

-- `e` or `E`, an optional `+` or `-`, and digits
abbrev pub IsExponent : List ℕ → Type 0
IsExponent text =
    (mark : List ℕ) × (sign : List ℕ) × (digits : List ℕ) × (text ≡ mark ++ (sign ++ digits)) ×
    ((mark ≡ codes "e") ⊎ (mark ≡ codes "E")) × IsOptionalSign sign × IsDigits digits

-- a fraction, an exponent, or both
pub data IsTail (text : List ℕ) : Type 0 where
  fraction : IsFraction text → IsTail text
  exponent : IsExponent text → IsTail text
  both : (f e : List ℕ) → text ≡ f ++ e → IsFraction f → IsExponent e → IsTail text

abbrev pub IsReal : List ℕ → Type 0
IsReal text = (digits : List ℕ) × (tail : List ℕ) × (text ≡ digits ++ tail) × IsDigits digits × IsTail tail

-- The text of a token of this kind. The end of the text has none.
abbrev pub IsTextOfKind : TokenKind → List ℕ → Type 0
IsTextOfKind Name text = IsWord text × (place_in reserved_words text ≡ None)
IsTextOfKind (Whole n) text = IsDigits text × (number_of text < 2 ^ 63) × (n ≡ pos (number_of text))
IsTextOfKind Real text = IsReal text
IsTextOfKind (Sign n) text = place_in signs text ≡ Some n
IsTextOfKind (Reserved n) text = IsWord text × (place_in reserved_words text ≡ Some n)
IsTextOfKind End text = ⊥

-- The text of some token, of a whole number that is too large too.
pub data IsTokenText (text : List ℕ) : Type 0 where
  word : IsWord text → IsTokenText text
  whole : IsDigits text → IsTokenText text
  real : IsReal text → IsTokenText text
  sign : (n : ℕ) → place_in signs text ≡ Some n → IsTokenText text
