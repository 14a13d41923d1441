-- The families that follow the events below a range.
use Rattle.std.specs.Prelude.{◌≡◌, ◌≢◌, ◌⊎◌, ◌<◌, ◌≤◌, ℕ, Bool, true, false, List, [], ◌++◌}
use Rattle.ar_base.specs.Lists.{Stands, IsOneOf}
use Rattle.zdd_nodes.specs.Families.{Family}
use Rattle.zdd_nodes.specs.Sections.{section}
use Rattle.zdd_nodes.specs.Nodes.{Stored, family, IsFamilyNumber}
use Rattle.gate_modules.specs.Ends.{IsSectionAt}
use Rattle.zdd_nodes.specs.Bounds.{EndsBelow, HasBelow}
use Rattle.gate_modules.specs.Walked.{AreEnds, AgreesSome, EntryAgrees}
use Rattle.gate_modules.specs.declared.twins.Question.{Question}

-- each section of the family at the number is empty or one of the entries
abbrev pub IsCovered : Stored → ℕ → List ℕ → Family → Type 0
IsCovered s from entries f = (p : List ℕ)
    → (section from p f ≡ []) ⊎ ((e : ℕ) × IsOneOf entries e × (section from p f ≡ family s e))

-- the sections of what was seen are covered
pub record AreSeen (s : Stored) (from : ℕ) (seen : List Bool) (entries : List ℕ) : Type 0 where
  pub each : (k : ℕ) → Stands seen k true → IsCovered s from entries (family s k)

-- entries were added, all of them numbers of the store and sections of the family
pub record AddsSections (s : Stored) (from n : ℕ) (old new : List ℕ) : Type 0 where
  pub added : List ℕ
  pub is : new ≡ old ++ added
  pub inside : (e : ℕ) → IsOneOf added e → IsFamilyNumber s e
  pub sections : (e : ℕ) → IsOneOf added e → IsSectionAt from (family s n) (family s e)

-- these are the sections of the family at the number, but for the empty one
pub record AreSectionsAt (s : Stored) (from n : ℕ) (entries : List ℕ) : Type 0 where
  pub covered : IsCovered s from entries (family s n)
  pub inside : (e : ℕ) → IsOneOf entries e → IsFamilyNumber s e
  pub sections : (e : ℕ) → IsOneOf entries e → IsSectionAt from (family s n) (family s e)

-- x is reached from n through numbers with events below the bound
pub data IsNumberReached (s : Stored) (to : ℕ) : ℕ → ℕ → Type 0 where
  here : (n : ℕ) → IsNumberReached s to n n
  up : {n v lo hi x : ℕ} → HasBelow s to n v lo hi → IsNumberReached s to hi x → IsNumberReached s to n x
  down : {n v lo hi x : ℕ} → HasBelow s to n v lo hi → IsNumberReached s to lo x → IsNumberReached s to n x

-- x follows some events of the number below the bound
pub record IsExit (s : Stored) (to n x : ℕ) : Type 0 where
  pub inside : IsFamilyNumber s x
  pub at_most : x ≤ n
  pub some : 0 < x
  pub taken : List ℕ
  pub is : section to taken (family s n) ≡ family s x
  pub reached : IsNumberReached s to n x
  pub ends : EndsBelow s to x

-- the same, where there are such events
pub record IsEntryExit (s : Stored) (to n x : ℕ) : Type 0 where
  pub exit : IsExit s to n x
  pub taken_some : exit.taken ≢ []

-- the entry does not go on as the reference
pub record EntryDiffers (s : Stored) (to e0 y e : ℕ) : Type 0 where
  pub asked : Question
  pub ends : AreEnds s asked
  pub to_is : asked.to ≡ to
  pub y_is : asked.node_end.n ≡ y
  pub exit : IsEntryExit s to e asked.end.n
  pub differs : AgreesSome s asked e e0 → ⊥

-- the answer is yes where all entries go on as the reference, else no
pub record EntriesAnswer (s : Stored) (to e0 y : ℕ) (entries : List ℕ) (answer : Bool) : Type 0 where
  pub yes : answer ≡ true → (e : ℕ) → IsOneOf entries e → EntryAgrees s to e0 y e
  pub no : answer ≡ false → (e : ℕ) × IsOneOf entries e × EntryDiffers s to e0 y e
