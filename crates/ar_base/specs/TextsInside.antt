-- Definitions beside those of Texts, of which clauses inside the program speak: what the whole program promises does
-- not rest on them.
use Rattle.std.specs.Prelude.{◌≡◌, ℕ, List, Option, Some, map}
use Rattle.std.specs.Str.{IsUtf8}
use Rattle.std.specs.String.{string_bytes}
use Rattle.std.specs.declared.string.String.{String}
use Rattle.ar_base.specs.Lists.{Stands}

-- the bytes of each text
abbrev pub bytes_of_all : {Z : Type 0} → List (String Z) → List (List ℕ)
bytes_of_all texts = map string_bytes texts

-- each text is one in UTF-8
pub record AreUtf8 (texts : List (List ℕ)) : Type 0 where
  pub each : (n : ℕ) (t : List ℕ) → Stands texts n t → IsUtf8 t

-- each text's number is its place in the table, and a text that the table lacks has none
pub record NumbersTexts (texts : List (List ℕ)) (number_of : List ℕ → Option ℕ) : Type 0 where
  pub found : (t : List ℕ) (n : ℕ) → number_of t ≡ Some n → Stands texts n t
  pub placed : (t : List ℕ) (n : ℕ) → Stands texts n t → number_of t ≡ Some n
