-- Sets of at most as many events as are asked for, of which something holds.
use Rattle.std.proofs.Common.{ℕ, List, Option, Some, None}
use Rattle.ar_firing.specs.CutsInside.{UpTo}
use Rattle.firable_families.specs.Firable.{AndUpTo}

pub has_it : (order : Option ℕ) (P : List ℕ → Type 0) (set : List ℕ) → AndUpTo order P set → P set
has_it None P set h = h
has_it (Some k) P set h = h.0

pub is_small : (order : Option ℕ) (P : List ℕ → Type 0) (set : List ℕ) → AndUpTo order P set → UpTo order set
is_small None P set h = tt
is_small (Some k) P set h = h.1

pub has_other : (order : Option ℕ) (P Q : List ℕ → Type 0) → ((set : List ℕ) → P set → Q set) → (set : List ℕ)
    → AndUpTo order P set → AndUpTo order Q set
has_other None P Q to set h = to set h
has_other (Some k) P Q to set h = (to set h.0, h.1)
