-- What the drawing of a tree's paths keeps, edge by edge.
use Rattle.std.specs.Prelude.{◌≡◌, ◌==◌, ◌&&◌, ◌⊎◌, ℕ, ℤ, Bool, List, [], ◌∷◌, Option, Some}
use Rattle.std.specs.HashMap.{HashMap, get}
use Rattle.std.specs.Ordering.{int_eq}
use Rattle.ar_base.specs.Lists.{Stands, IsOneOf}
use Rattle.ar_base.specs.Sets.{Within}
use Rattle.domains.specs.declared.Value.{Value}
use Rattle.domains.specs.Values.{rank_of, number_in_rank}
use Rattle.ar_firing.specs.Forest.{ModeTree}
use Rattle.zdd_nodes.specs.Nodes.{NodeId, Stored, family, IsFamilyNumber, Grows}
use Rattle.firable_families.specs.Entries.{IsEntry, HasEntries}
use Rattle.mode_diagrams.specs.Numbers.{IsEnteredBefore}

-- families were added, whichever they are, and nothing else changed
abbrev pub AddsFamilies : Stored → Stored → Type 0
AddsFamilies old new = Grows (λ h. Unit {0}) old new

-- a mode as a key of a table
abbrev pub key_of : Value → ℕ × ℤ
key_of m = (rank_of m, number_in_rank m)

-- whether two keys are one
abbrev pub same_key : ℕ × ℤ → ℕ × ℤ → Bool
same_key a b = (a.0 == b.0) && int_eq a.1 b.1

-- the number that a table has for a mode
abbrev pub number_at : {S : Type 0} → HashMap (ℕ × ℤ) NodeId S → Value → Option NodeId
number_at modes m = get same_key modes (key_of m)

-- n is the number of the family of this one set
pub record IsOneSet (s : Stored) (n : ℕ) (set : List ℕ) : Type 0 where
  pub in_store : IsFamilyNumber s n
  pub is : family s n ≡ set ∷ []

-- the members of `more` are the event and those of the set
pub record IsWith (e : ℕ) (set more : List ℕ) : Type 0 where
  pub sound : (x : ℕ) → IsOneOf more x → (x ≡ e) ⊎ IsOneOf set x
  pub event : IsOneOf more e
  pub kept : Within set more

-- the table has a number for the mode, that of the family of one set
pub record IsModeKnown {S : Type 0} (modes : HashMap (ℕ × ℤ) NodeId S) (s : Stored) (m : Value)
    : Type 0 where
  pub number : NodeId
  pub found : number_at modes m ≡ Some number
  pub set : List ℕ
  pub one : IsOneSet s number.n set

-- after the first k edges of a tree: each mode that is reached is known with the set of one of the
-- entries, which are modes of the tree with the events of a path to each; and the family of number
-- `paths` has the entries' sets
pub record AreModesTabled {S : Type 0} (tree : ModeTree) (k : ℕ) (modes : HashMap (ℕ × ℤ) NodeId S)
    (s : Stored) (paths : ℕ) : Type 0 where
  pub entries : List (Value × List ℕ)
  pub sound : (j : ℕ) (m : Value) (set : List ℕ) → Stands entries j (m, set)
      → IsEntry tree m set
  pub known : (m : Value) → IsEnteredBefore tree k m → (i : IsModeKnown modes s m) × IsOneOf entries (m, i.set)
  pub in_store : IsFamilyNumber s paths
  pub has : HasEntries entries (family s paths)
