-- Texts as lists of bytes: tables of texts, lines, and texts joined.
use Rattle.std.specs.Prelude.{◌≡◌, ℕ, Bool, false, if◌then◌else◌, List, [], ◌∷◌, ◌++◌, codes, slice_get, unwrap_or}
use Rattle.ar_base.specs.Lists.{IsOneOf, HasNo}

-- the table `new` is `old` with this text: a text that stands there already changes nothing, another one goes last
pub data Interns (old : List (List ℕ)) (text : List ℕ) : List (List ℕ) → Type 0 where
  known : IsOneOf old text → Interns old text old
  added : (HasNo old (λ t. t ≡ text)) → Interns old text (old ++ text ∷ [])

-- the text of this number, empty past the end of the table
abbrev pub text_at : List (List ℕ) → ℕ → List ℕ
text_at texts n = unwrap_or (slice_get texts n) []

-- a text with the line feed that ends its line
abbrev pub line : List ℕ → List ℕ
line text = text ++ 10 ∷ []

-- the texts with the separator before each of them, save the first where nothing stands before it
abbrev pub separated : Bool → List ℕ → List (List ℕ) → List ℕ
separated first separator [] = []
separated first separator (t ∷ ts) = (if first then [] else separator) ++ t ++ separated false separator ts

-- `true` or `false`
abbrev pub truth_text : Bool → List ℕ
truth_text b = if b then codes "true" else codes "false"
