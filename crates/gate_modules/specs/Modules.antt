-- Units whose events may be exchanged in the sets of a family.
use Rattle.std.specs.Prelude.{◌≡◌, ◌≢◌, ◌≤◌, ◌<◌, ℕ, Bool, true, not, ◌&&◌, List, [], ◌++◌, nat_lt}
use Rattle.std.specs.List.{filter}
use Rattle.ar_base.specs.Lists.{Stands, IsOneOf}
use Rattle.zdd_nodes.specs.Families.{Family, has}
use Rattle.gate_modules.specs.declared.ranges.Range.{Range}

-- the event is one of the range
abbrev pub lies : Range → ℕ → Bool
lies r e = not (nat_lt e r.from) && nat_lt e r.to

-- the events of the set that are of the range
abbrev pub inside : Range → List ℕ → List ℕ
inside r set = filter (lies r) set

-- the events of the set that are not of the range
abbrev pub outside : Range → List ℕ → List ℕ
outside r set = filter (λ e. not (lies r e)) set

-- a part of the unit: all that some set of the family has of its events, at least one
pub record IsPartOfUnit (f : Family) (r : Range) (part : List ℕ) : Type 0 where
  pub set : List ℕ
  pub among : has f set ≡ true
  pub is : inside r set ≡ part
  pub some : part ≢ []

-- a rest of the unit: what some set of the family that has an event of the unit has besides
pub record IsRest (f : Family) (r : Range) (rest : List ℕ) : Type 0 where
  pub set : List ℕ
  pub among : has f set ≡ true
  pub touched : inside r set ≢ []
  pub is : outside r set ≡ rest

-- the events of both, where the part's are of the range and the rest's are not: first those of the rest below the range
abbrev pub joined_sets : Range → List ℕ → List ℕ → List ℕ
joined_sets r part rest = filter (λ e. nat_lt e r.from) rest ++ (part ++ filter (λ e. not (nat_lt e r.from)) rest)

-- the unit is a module: it has two parts or more, and each of its parts goes with each of its rests
pub record IsModule (f : Family) (r : Range) : Type 0 where
  pub one : List ℕ
  pub other : List ℕ
  pub one_is : IsPartOfUnit f r one
  pub other_is : IsPartOfUnit f r other
  pub differ : one ≢ other
  pub exchanged : (part rest : List ℕ) → IsPartOfUnit f r part → IsRest f r rest
      → has f (joined_sets r part rest) ≡ true

-- Ranges of units

-- the events of the second range are among those of the first
abbrev pub Covers : Range → Range → Type 0
Covers outer inner = (outer.from ≤ inner.from) × (inner.to ≤ outer.to)

-- the unit of the first range is round that of the second
pub record IsRound (outer inner : Range) : Type 0 where
  pub first : outer.unit.n < inner.unit.n
  pub covers : Covers outer inner

-- the unit is chosen: it is a module, and no unit round it is one
pub record IsChosen (f : Family) (ranges : List Range) (r : Range) : Type 0 where
  pub listed : IsOneOf ranges r
  pub is_module : IsModule f r
  pub outermost : (outer : Range) → IsOneOf ranges outer → IsRound outer r → IsModule f outer → ⊥

-- these are the chosen ones of the ranges, by the numbers of their units
pub record AreChosen (f : Family) (ranges chosen : List Range) : Type 0 where
  pub sound : (r : Range) → IsOneOf chosen r → IsChosen f ranges r
  pub whole : (r : Range) → IsChosen f ranges r → IsOneOf chosen r
  pub ascend : (j k : ℕ) (a b : Range) → j < k → Stands chosen j a → Stands chosen k b → a.unit.n < b.unit.n
