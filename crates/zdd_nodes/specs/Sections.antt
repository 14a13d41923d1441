-- Sections of a family, and the families that the operations may need on their way.
use Rattle.std.specs.Prelude.{◌≡◌, ◌≢◌, ℕ, ◌+◌, ◌<◌, ◌≤◌, true, not, eqb, List, [], ◌∷◌, length, map, drop, nat_lt}
use Rattle.std.specs.List.{filter, list_any, AllByRecursion, All}
use Rattle.ar_base.specs.Lists.{AreDifferent}
use Rattle.ar_base.specs.Sets.{Ascends}
use Rattle.zdd_nodes.specs.Families.{Family, same, holds, without, minimal}

-- the members below i
abbrev pub below : ℕ → List ℕ → List ℕ
below i s = filter (λ x. nat_lt x i) s

-- p is a set of events below i
abbrev pub IsSetBelow : ℕ → List ℕ → Type 0
IsSetBelow i p = Ascends p × AllByRecursion (λ x. x < i) p

-- one set for each set of f whose members below i are exactly p: that set with the members of p taken off
unfoldable pub section : ℕ → List ℕ → Family → Family
section i p f = map (drop (length p)) (filter (λ s. same (below i s) p) f)

-- h is a section of f, other than the empty family and the family of the empty set alone
pub record IsCounted (f h : Family) : Type 0 where
  pub at : ℕ
  pub taken : List ℕ
  pub taken_below : IsSetBelow at taken
  pub is : h ≡ section at taken f
  pub not_empty : h ≢ []
  pub not_unit : h ≢ [] ∷ []

-- h is a part of f and g: at some event, for some set of events below it and some subset of that, a counted section of
-- the sets of f's section at the set that contain no set of g's section at the subset
pub record IsPartOfBoth (f g h : Family) : Type 0 where
  pub at : ℕ
  pub taken : List ℕ
  pub fewer : List ℕ
  pub taken_below : IsSetBelow at taken
  pub fewer_ascends : Ascends fewer
  pub among : AllByRecursion (λ x. holds x taken ≡ true) fewer
  pub counted : IsCounted (without (section at taken f) (section at fewer g)) h

-- v is the least event in the sets of h
abbrev pub IsFirstEvent : ℕ → Family → Type 0
IsFirstEvent v h = (list_any (holds v) h ≡ true) × ((x : ℕ) → list_any (holds x) h ≡ true → v ≤ x)

-- the sets of h with v, with v taken off
abbrev pub upper : ℕ → Family → Family
upper v h = map (filter (λ x. not (eqb v x))) (filter (holds v) h)

-- the sets of h without v
abbrev pub lower : ℕ → Family → Family
lower v h = filter (λ s. not (holds v s)) h

-- h is a half of f: a counted section of the minimal sets of some section of f; or, where v is the least event in the
-- sets
-- of the section, a part of the minimal sets of its upper half and the minimal sets of its lower half
pub data IsHalf (f : Family) : Family → Type 0 where
  of_minimal : (i : ℕ) (p : List ℕ) {h : Family} → IsSetBelow i p → IsCounted (minimal (section i p f)) h → IsHalf f h
  of_halves : (i : ℕ) (p : List ℕ) (v : ℕ) {h : Family} → IsSetBelow i p → IsFirstEvent v (section i p f)
      → IsPartOfBoth (minimal (upper v (section i p f))) (minimal (lower v (section i p f))) h → IsHalf f h

-- P holds of more than n families: n + 1 different ones are listed
pub record IsMoreThan (n : ℕ) (P : Family → Type 0) : Type 0 where
  pub members : List Family
  pub different : AreDifferent members
  pub all : All P members
  pub count : length members ≡ n + 1
