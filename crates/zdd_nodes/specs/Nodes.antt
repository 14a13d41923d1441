-- Stores of families: what their callers see, and what a call does to one.
use Rattle.std.specs.Prelude.{◌≡◌, ◌≢◌, ℕ, ◌+◌, ◌<◌, ◌≤◌, List, [], ◌∷◌, ◌++◌, length, slice_index_or, Result, Err, IfOk}
use Rattle.std.specs.List.{All}
use Rattle.ar_base.specs.Lists.{AreDifferent}
use Rattle.ar_base.specs.declared.numbers.Id.{Id}
use Rattle.zdd_nodes.specs.Families.{Family}
use Rattle.zdd_nodes.specs.FamiliesInside.{node, IsAbove, IsFamily}
use Rattle.zdd_nodes.specs.declared.NodeKind.{NodeKind}
use Rattle.zdd_nodes.specs.declared.NodeFault.{NodeFault}
use Rattle.zdd_nodes.specs.declared.NodeFault.TheVariants.{Full}

-- the typed number of a family
abbrev pub NodeId : Type 0
NodeId = Id NodeKind

-- a store as its callers see it: the families of its nodes in the order in which they were made, and its limit
pub record Stored : Type 0 where
  pub families : List Family
  pub limit : ℕ

-- the families of all numbers: 0 stands for the empty family, 1 for the family of the empty set, and the nodes are
-- numbered from 2
abbrev pub all_families : List Family → List Family
all_families fs = [] ∷ ([] ∷ []) ∷ fs

-- the family of a number, where the nodes have the families fs
abbrev pub at : List Family → ℕ → Family
at fs n = slice_index_or (all_families fs) n []

-- the family of a number of the store
abbrev pub family : Stored → ℕ → Family
family s n = at s.families n

-- n is 0, 1 or the number of a node of the store
abbrev pub IsFamilyNumber : Stored → ℕ → Type 0
IsFamilyNumber s n = n < length s.families + 2

-- a node's number, event and halves: its sets with the event come from the family of hi, which is not empty, those
-- without it
-- are the family of lo, and the halves have lesser numbers and greater events
pub record IsNode (fs : List Family) (n event lo hi : ℕ) : Type 0 where
  pub lo_before : lo < n
  pub hi_before : hi < n
  pub hi_some : at fs hi ≢ []
  pub lo_above : IsAbove event (at fs lo)
  pub hi_above : IsAbove event (at fs hi)
  pub is : at fs n ≡ node event (at fs lo) (at fs hi)

-- the number is that of a node, whose halves have earlier numbers
pub record HasHalves (fs : List Family) (n : ℕ) : Type 0 where
  pub event : ℕ
  pub lo : ℕ
  pub hi : ℕ
  pub halves : IsNode fs n event lo hi

-- what every store keeps: no two numbers stand for one family, each is kept in order, each from 2 on is that of a node
-- whose
-- halves are stored, and there are at most limit nodes
pub record IsSoundStore (s : Stored) : Type 0 where
  pub different : AreDifferent (all_families s.families)
  pub families : (n : ℕ) → IsFamilyNumber s n → IsFamily (family s n)
  pub nodes : (n : ℕ) → 2 ≤ n → IsFamilyNumber s n → HasHalves s.families n
  pub within : length s.families ≤ s.limit

-- nothing has changed but that the nodes of these families came last, and of each of them P holds
pub record Grows (P : Family → Type 0) (old new : Stored) : Type 0 where
  pub limit : new.limit ≡ old.limit
  pub added : List Family
  pub families : new.families ≡ old.families ++ added
  pub all : All P added

-- the store has its limit of nodes, all with different families, and lacks a family of which P holds
pub record IsFullFor (P : Family → Type 0) (s : Stored) : Type 0 where
  pub family : Family
  pub allowed : P family
  pub missing : All (λ g. g ≢ family) s.families
  pub different : AreDifferent s.families
  pub full : length s.families ≡ s.limit

-- a call answers the number of the made family or refuses; all families that it adds have P, and where it says Full the
-- store
-- has its limit of nodes and lacks another such family
pub record Draws (P : Family → Type 0) (made : Family) (old new : Stored) (r : Result NodeId NodeFault) : Type 0 where
  pub grows : Grows P old new
  pub ok : IfOk r (λ n. IsFamilyNumber new n.n × (family new n.n ≡ made))
  pub full : r ≡ Err Full → IsFullFor P new

-- the family of no number is the made one, and the store has its limit of nodes
pub record HasNoRoom (made : Family) (s : Stored) : Type 0 where
  pub is_new : (n : ℕ) → IsFamilyNumber s n → family s n ≢ made
  pub full : length s.families ≡ s.limit

-- the made family has this number: it had it before and nothing changed, or its node came last
pub data MakesFamily (made : Family) (old : Stored) : Stored → ℕ → Type 0 where
  known : (n : ℕ) → IsFamilyNumber old n → family old n ≡ made → MakesFamily made old old n
  added : ((n : ℕ) → IsFamilyNumber old n → family old n ≢ made)
      → MakesFamily made old (record { families = old.families ++ made ∷ []; limit = old.limit }) (length old.families + 2)

-- h is the family of a node of the store
abbrev pub IsStored : Family → Stored → Type 0
IsStored h s = (n : ℕ) × (2 ≤ n) × IsFamilyNumber s n × (family s n ≡ h)
