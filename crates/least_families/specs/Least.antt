-- Families of least sets, and where a set has one of them in it.
use Rattle.std.specs.Prelude.{◌≡◌, ℕ, Bool, true, List, Option}
use Rattle.std.specs.List.{list_any}
use Rattle.ar_firing.specs.CutsInside.{UpTo}
use Rattle.zdd_nodes.specs.Families.{Family, within, has}

-- whether a set of the family lies within this set
abbrev pub covers : Family → List ℕ → Bool
covers f s = list_any (λ t. within t s) f

-- no set of the family lies within another
pub record AreIncomparable (f : Family) : Type 0 where
  pub least : (s t : List ℕ) → has f s ≡ true → has f t ≡ true → within s t ≡ true → within t s ≡ true

-- the family has the least sets with P at which the test is true: no set of it lies within another, each has P, and of the
-- sets with P the test is true at those that have a set of the family in them, and at no other
pub record AreLeast (P : List ℕ → Type 0) (test : List ℕ → Bool) (f : Family) : Type 0 where
  pub apart : AreIncomparable f
  pub each : (s : List ℕ) → has f s ≡ true → P s
  pub at : (s : List ℕ) → P s → covers f s ≡ test s

-- the same of the sets of at most as many members as are asked for
abbrev pub AreLeastUpTo : Option ℕ → (List ℕ → Bool) → Family → Type 0
AreLeastUpTo order test f = AreLeast (UpTo order) test f
