-- The walk through the events by number, with the paths that are still possible in each tree.
use Rattle.std.specs.Prelude.{◌≡◌, ◌-◌, ◌<◌, ℕ, zero, suc, Bool, cond, ◌&&◌, eqb, leb, true, List, [], ◌∷◌, length, map, Option, Some, None}
use Rattle.std.specs.List.{filter, list_any, list_all}
use Rattle.ar_base.specs.Lists.{Stands, Along}
use Rattle.ar_firing.specs.Forest.{ModeTree}
use Rattle.ar_firing.specs.Listed.{AreListed}
use Rattle.zdd_nodes.specs.Families.{Family, has, holds}
use Rattle.zdd_nodes.specs.FamiliesInside.{node}
use Rattle.zdd_nodes.specs.Sections.{upper, lower}
use Rattle.firable_families.specs.FirableInside.{IsPathSet}

-- the event is in a set of the family
abbrev pub occurs : ℕ → Family → Bool
occurs e f = list_any (holds e) f

-- what is left of a tree's sets where the event is taken: a tree that has it keeps its sets with it, with it taken off,
-- and another tree keeps all
abbrev pub taken : ℕ → Family → Family
taken e f = cond (occurs e f) (upper e f) f

-- the sets still possible in each tree where the event is left out
abbrev pub all_lower : ℕ → List Family → List Family
all_lower e fs = map (lower e) fs

-- the sets still possible in each tree where the event is taken
abbrev pub all_taken : ℕ → List Family → List Family
all_taken e fs = map (taken e) fs

-- one of the trees has the event
abbrev pub some_occurs : ℕ → List Family → Bool
some_occurs e fs = list_any (occurs e) fs

-- the family of what is left of the firable sets in so many events from number i on, where these are the sets still
-- possible in each tree
abbrev pub left : ℕ → ℕ → List Family → Family
left zero i fs = cond (list_all (λ f. has f []) fs) ([] ∷ []) []
left (suc k) i fs = node i (left k (suc i) (all_lower i fs))
    (cond (some_occurs i fs) (left k (suc i) (all_taken i fs)) [])

-- the sets of the family that have at most as many members as are asked for; all of them where no number is given
abbrev pub few_of : Option ℕ → Family → Family
few_of None f = f
few_of (Some k) f = filter (λ s. leb (length s) k) f

-- one event fewer
abbrev pub one_fewer : Option ℕ → Option ℕ
one_fewer None = None
one_fewer (Some k) = Some (k - 1)

-- the sets still possible in each tree after so many events from number i on, of which exactly those of the set were
-- taken
abbrev pub after : ℕ → ℕ → List ℕ → List Family → List Family
after zero i p fs = fs
after (suc k) i [] fs = after k (suc i) [] (all_lower i fs)
after (suc k) i (x ∷ p) fs =
    cond (eqb x i) (after k (suc i) p (all_taken i fs)) (after k (suc i) (x ∷ p) (all_lower i fs))

-- each event of the set could be taken: a tree had it when it was its turn
abbrev pub could : ℕ → ℕ → List ℕ → List Family → Bool
could zero i p fs = true
could (suc k) i [] fs = could k (suc i) [] (all_lower i fs)
could (suc k) i (x ∷ p) fs =
    cond (eqb x i) (some_occurs i fs && could k (suc i) p (all_taken i fs)) (could k (suc i) (x ∷ p) (all_lower i fs))

-- the families list the paths of the trees, a tree an item
abbrev pub AreTreeFamilies : List ModeTree → List Family → Type 0
AreTreeFamilies trees fs = Along (λ tree f. AreListed (IsPathSet tree) f) trees fs

-- each set of each family has members below n alone
pub record AreEventsBelow (n : ℕ) (fs : List Family) : Type 0 where
  pub each : (m e : ℕ) (f : Family) → Stands fs m f → occurs e f ≡ true → e < n
