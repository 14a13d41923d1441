use Rattle.std.proofs.Common.{ℕ, List, [], ◌∷◌, refl, arith, ◌≤◌}
use Rattle.std.specs.List.{AllByRecursion}
use Rattle.zdd_nodes.proofs.Ascending.{is_ascending}
use Rattle.firable_families.proofs.Trees.{walk_lists}
use Rattle.firable_families.proofs.Walking.{left_section}
use Rattle.firable_families.proofs.ModePaths.{entries_listed}
use Rattle.firable_families.proofs.Few.{few_listed}
use Rattle.firable_families.proofs.Listing.{least_listed}
use Rattle.firable_families.proofs.InForests.{firable_in_system, firable_in_trees}
use Rattle.firable_families.proofs.Cutting.{in_system}
use Rattle.firable_families.proofs.Alike.{firable_seen, are_trees_seen}
use Rattle.firable_families.proofs.firable_laws.Goals as goal

all_zero : (p : List ℕ) → AllByRecursion (λ x. 0 ≤ x) p
all_zero [] = tt
all_zero (x ∷ p) = (omega arith, all_zero p)

pub returns-clause-lists_of_walk : goal.returns-clause-lists_of_walk
returns-clause-lists_of_walk g c = λ trees fs h n a b. walk_lists trees fs h n a b

pub returns-clause-sections_of_walk : goal.returns-clause-sections_of_walk
returns-clause-sections_of_walk g c = λ m k p fs a u. left_section m _ k 0 m p fs refl (omega arith) (is_ascending p a)
    (all_zero p) u

pub returns-clause-tree_families : goal.returns-clause-tree_families
returns-clause-tree_families g c = entries_listed

pub returns-clause-small_sets : goal.returns-clause-small_sets
returns-clause-small_sets g c = few_listed

pub returns-clause-least_sets : goal.returns-clause-least_sets
returns-clause-least_sets g c = least_listed

pub returns-clause-firable_in_forests : goal.returns-clause-firable_in_forests
returns-clause-firable_in_forests g c = λ sys dropped s trees forest set. (
  λ h. firable_in_system sys dropped s.keyed s.static trees forest set h,
  λ h. firable_in_trees sys dropped s.keyed
      s.static trees forest set h.0 h.1,
)

pub returns-clause-least_in_forests : goal.returns-clause-least_in_forests
returns-clause-least_in_forests g c = λ sys dropped s trees forest test sets l. in_system sys dropped s.keyed s.static trees forest
    test sets l

pub returns-clause-firable_by_ways : goal.returns-clause-firable_by_ways
returns-clause-firable_by_ways g c = λ number other forest set.
    (firable_seen number other forest set, firable_seen other number forest set)

pub returns-clause-trees_by_ways : goal.returns-clause-trees_by_ways
returns-clause-trees_by_ways g c = λ number other forest. (are_trees_seen number other forest, are_trees_seen other number forest)
