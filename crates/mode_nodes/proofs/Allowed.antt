-- Stores with costs as they grow, and the modes that cost no more than is enough.
use Rattle.std.proofs.Common.{◌≡◌, ℕ, ◌≤◌, List, refl, sym, ◌∙◌, subst, subst₂, arith}
use Rattle.mode_nodes.specs.Diagrams.{StoredDiagrams, IsFrom, GainsNodes}
use Rattle.mode_nodes.specs.Bounds.{Costs, Bounded, total_cost, AreAffordable, GrowsWithin}
use Rattle.mode_nodes.proofs.Growing.{Grows-none, Grows-then}

pub GrowsWithin-none : (s : Bounded) → GrowsWithin s s
GrowsWithin-none s = record { store = Grows-none s.store; costs = refl; most = refl }

pub GrowsWithin-then : (s t u : Bounded) → GrowsWithin s t → GrowsWithin t u → GrowsWithin s u
GrowsWithin-then s t u a b = record {
  store = Grows-then s.store t.store u.store a.store b.store;
  costs = b.costs ∙ a.costs;
  most = b.most ∙ a.most;
}

-- what is enough stays so
pub allowed : (s t : Bounded) (modes : List ℕ) → GrowsWithin s t → AreAffordable s modes → AreAffordable t modes
allowed s t modes g h = subst (λ m. total_cost t.costs 0 modes ≤ m) (sym g.most)
    (subst (λ c. total_cost c 0 modes ≤ s.most) (sym g.costs) h)

pub allowed_before : (s t : Bounded) (modes : List ℕ) → GrowsWithin s t → AreAffordable t modes → AreAffordable s modes
allowed_before s t modes g h = subst (λ m. total_cost s.costs 0 modes ≤ m) g.most
    (subst (λ c. total_cost c 0 modes ≤ t.most) g.costs h)

-- every diagram asks for no tree before the first
pub from_first : (s : StoredDiagrams) (n : ℕ) → IsFrom s.nodes 0 n
from_first s n = λ k i. omega arith
