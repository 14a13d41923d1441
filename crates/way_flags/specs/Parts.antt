-- Flags by number, and what they say of parts.
use Rattle.std.specs.Prelude.{ℕ, Bool, false, not, ◌||◌, List, slice_get, unwrap_or}
use Rattle.std.specs.List.{list_all, list_any}
use Rattle.ar_base.specs.Numbers.{WayId}

-- the flag of a number, false past the end
abbrev pub flag_at : List Bool → ℕ → Bool
flag_at flags n = unwrap_or (slice_get flags n) false

-- whether one of the parts is marked !
abbrev pub has_must_in : List (Bool × WayId) → Bool
has_must_in parts = list_any (λ (p : Bool × WayId). p.0) parts

-- whether the flag of each part that is marked ! is set
abbrev pub musts_by : List Bool → List (Bool × WayId) → Bool
musts_by flags parts = list_all (λ (p : Bool × WayId). not p.0 || flag_at flags p.1.n) parts

-- whether one part's flag is set
abbrev pub some_by : List Bool → List (Bool × WayId) → Bool
some_by flags parts = list_any (λ (p : Bool × WayId). flag_at flags p.1.n) parts

-- whether each part's flag is set
abbrev pub are_set : List Bool → List (Bool × WayId) → Bool
are_set flags parts = list_all (λ (p : Bool × WayId). flag_at flags p.1.n) parts
