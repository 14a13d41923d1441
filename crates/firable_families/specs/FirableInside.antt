-- Definitions beside those of Firable, of which clauses inside the program speak: what the whole program promises does
-- not rest on them.
use Rattle.std.specs.Prelude.{◌≡◌, ℕ, Bool, true, List, [], ◌∷◌, Option, None}
use Rattle.ar_base.specs.Lists.{Stands, IsOneOf}
use Rattle.ar_base.specs.Sets.{Within}
use Rattle.domains.specs.declared.Value.{Value}
use Rattle.ar_meaning.specs.Runs.{Label}
use Rattle.ar_firing.specs.Forest.{ModeTree}
use Rattle.ar_firing.specs.Cuts.{IsLeast}
use Rattle.ar_firing.specs.Listed.{AreListed}
use Rattle.firable_families.specs.Firable.{AndUpTo}

-- the tree's edges with these labels, the last first, lead from its first mode to this one
pub data LeadsToMode (tree : ModeTree) : List Label → Value → Type 0 where
  root : {m : Value} → tree.first ≡ m → LeadsToMode tree [] m
  edge : {l : Label} {ls : List Label} {m to : Value} → LeadsToMode tree ls m
      → IsOneOf tree.edges (record { from = m; label = l; to = to }) → LeadsToMode tree (l ∷ ls) to

-- the labels' events are the members of the set
pub record HaveEvents (ls : List Label) (set : List ℕ) : Type 0 where
  pub sound : (k : ℕ) (l : Label) → Stands ls k l → IsOneOf set l.event
  pub whole : (e : ℕ) → IsOneOf set e → (l : Label) × IsOneOf ls l × (l.event ≡ e)

-- the set has the events along one path of the tree
pub record IsPathSet (tree : ModeTree) (set : List ℕ) : Type 0 where
  pub labels : List Label
  pub end : Value
  pub leads : LeadsToMode tree labels end
  pub events : HaveEvents labels set

-- the set is firable in these trees: its events are those along one path of each tree, and no other; path k is that of
-- the tree at place k
pub record IsFirableOf (trees : List ModeTree) (set : List ℕ) : Type 0 where
  pub path : ℕ → List Label
  pub walks : (k : ℕ) (tree : ModeTree) → Stands trees k tree → (m : Value) × LeadsToMode tree (path k) m
  pub sound : (k : ℕ) (tree : ModeTree) → Stands trees k tree → (j : ℕ) (l : Label) → Stands (path k) j l
      → IsOneOf set l.event
  pub whole : (e : ℕ) → IsOneOf set e
      → (k : ℕ) × (tree : ModeTree) × (l : Label) × Stands trees k tree × IsOneOf (path k) l × (l.event ≡ e)

-- the set is firable in the trees, and has at most as many events as are asked for
abbrev pub IsFirableUpTo : Option ℕ → List ModeTree → List ℕ → Type 0
IsFirableUpTo order trees = AndUpTo order (IsFirableOf trees)

-- the set is one of those, and the test is true of it
pub record IsTrueUpTo (order : Option ℕ) (trees : List ModeTree) (test : List ℕ → Bool) (set : List ℕ) : Type 0 where
  pub is_firable : IsFirableUpTo order trees set
  pub holds : test set ≡ true

-- the set is firable in the trees, and the test is true of it
abbrev pub IsTrueAt : List ModeTree → (List ℕ → Bool) → List ℕ → Type 0
IsTrueAt trees test set = IsTrueUpTo None trees test set

-- the test answers by the set's members alone, however its list has them
pub record IsOfMembers (test : List ℕ → Bool) : Type 0 where
  pub same : (s t : List ℕ) → Within s t → Within t s → test s ≡ test t

-- the list has the least firable sets of at most as many events as are asked for at which the test is true
abbrev pub ListsLeastUpTo : Option ℕ → List ModeTree → (List ℕ → Bool) → List (List ℕ) → Type 0
ListsLeastUpTo order trees test sets = AreListed (IsLeast (IsTrueUpTo order trees test)) sets

-- the list has the least firable sets at which the test is true
abbrev pub ListsLeast : List ModeTree → (List ℕ → Bool) → List (List ℕ) → Type 0
ListsLeast trees test sets = ListsLeastUpTo None trees test sets
