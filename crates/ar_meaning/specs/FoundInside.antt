-- Definitions beside those of Found, of which clauses inside the program speak: what the whole program promises does
-- not rest on them.
use Rattle.std.specs.Prelude.{◌≡◌, ◌⊎◌, ℕ, List, Option, Some, None}
use Rattle.ar_base.specs.Lists.{IsFirst, HasNo}

-- the number of the first item that has P, or none where no item has
abbrev pub IsFirstOrNone : {A : Type 0} → List A → (A → Type 0) → Option ℕ → Type 0
IsFirstOrNone all P None = HasNo all P
IsFirstOrNone all P (Some n) = IsFirst all P n

-- it can be told whether two things are one, as with numbers
abbrev pub AreTold : Type 0 → Type 0
AreTold A = (x y : A) → (x ≡ y) ⊎ (x ≡ y → ⊥)
