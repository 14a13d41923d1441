-- How many ways declared events have, told by sums and products.
use Rattle.std.specs.Prelude.{◌≡◌, ℕ, ◌+◌, ◌*◌, ◌<◌, ◌≤◌, Bool, List, [], ◌∷◌, length, slice_index}
use Rattle.ar_base.specs.Lists.{Stands, IsOneOf}
use Rattle.ar_meaning.specs.Expand.{EventDeclaration, Member, One, Synchronises}
use Rattle.sync_expand.specs.Plans.{first_of}

-- the choices of one way for each part: the product of the parts' numbers of ways
abbrev pub choice_count : List ℕ → List (Bool × ℕ) → ℕ
choice_count counts [] = 1
choice_count counts (p ∷ ps) = slice_index counts p.1 * choice_count counts ps

-- the ways that a member gives
abbrev pub member_count : {L : Type 0} → List ℕ → Member L ℕ → ℕ
member_count counts (One l) = 1
member_count counts (Synchronises parts) = choice_count counts parts

-- the ways that members give
abbrev pub way_count : {L : Type 0} → List ℕ → List (Member L ℕ) → ℕ
way_count counts [] = 0
way_count counts (m ∷ ms) = member_count counts m + way_count counts ms

-- the parts of the ways that a member gives
abbrev pub member_parts : {L : Type 0} → List ℕ → Member L ℕ → ℕ
member_parts counts (One l) = 0
member_parts counts (Synchronises parts) = choice_count counts parts * length parts

-- the parts of the ways that members give
abbrev pub parts_given : {L : Type 0} → List ℕ → List (Member L ℕ) → ℕ
parts_given counts [] = 0
parts_given counts (m ∷ ms) = member_parts counts m + parts_given counts ms

-- the parts of the ways of events
abbrev pub all_parts : {L : Type 0} → List ℕ → List (EventDeclaration L ℕ) → ℕ
all_parts counts [] = 0
all_parts counts (d ∷ ds) = parts_given counts d.members + all_parts counts ds

-- these are the numbers of ways of the events: each the sum over its members, and over a
-- synchronisation's parts the product
pub record AreCounts {L : Type 0} (events : List (EventDeclaration L ℕ)) (counts : List ℕ) : Type 0 where
  pub long : length counts ≡ length events
  pub each : (n : ℕ) (d : EventDeclaration L ℕ) → Stands events n d
      → Stands counts n (way_count counts d.members)

-- how many ways each event has, and the number of its first way
pub record AreFirsts (counts : List ℕ) (firsts : List ℕ) : Type 0 where
  pub long : length firsts ≡ length counts
  pub each : (n : ℕ) → n < length counts → Stands firsts n (first_of counts n)

-- no event has more ways than the limit
pub record AreFew {L : Type 0} (counts : List ℕ) (events : List (EventDeclaration L ℕ)) : Type 0 where
  pub few : (d : EventDeclaration L ℕ) → IsOneOf events d → way_count counts d.members ≤ 256
