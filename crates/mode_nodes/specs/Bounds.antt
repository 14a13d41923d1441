-- What modes cost, and diagrams that are right at the modes that cost no more than there is.
use Rattle.std.specs.Prelude.{◌≡◌, ◌≢◌, ℕ, zero, suc, ◌+◌, ◌-◌, ◌<◌, ◌≤◌, Bool, List, [], map, length, slice_index_or, Result, Err, IfOk}
use Rattle.std.specs.Prelude.{Vec}
use Rattle.std.specs.Global.{Global as Heap}
use Rattle.mode_nodes.specs.Diagrams.{DiagramId, StoredDiagrams, mode_of, value, IsDiagramNumber, IsFrom, GainsNodes}
use Rattle.mode_nodes.specs.declared.store.DiagramFault.{DiagramFault}
use Rattle.mode_nodes.specs.declared.store.DiagramFault.TheVariants.{Full}
use Rattle.mode_nodes.specs.declared.cut.Cut.{Cut}

-- the costs of modes: for each tree those of its modes
abbrev pub Costs : Type 0
Costs = List (List ℕ)

-- a table of costs as its callers see it
abbrev pub costs_of : List (Vec ℕ Heap) → Costs
costs_of table = map (λ (v : Vec ℕ Heap). v.items) table

-- what a tree's mode costs: 0 where the table has nothing of it
unfoldable pub cost : Costs → ℕ → ℕ → ℕ
cost costs tree mode = slice_index_or (slice_index_or costs tree []) mode 0

-- the sum of c over so many numbers from t on
abbrev pub sum_from : (ℕ → ℕ) → ℕ → ℕ → ℕ
sum_from c t zero = 0
sum_from c t (suc k) = c t + sum_from c (t + 1) k

-- what the modes cost: the sum over the trees from place t on, each at its mode
unfoldable pub total_cost : Costs → ℕ → List ℕ → ℕ
total_cost costs t modes = sum_from (λ u. cost costs u (mode_of modes u)) t (length costs - t)

-- n has the values V at the modes that cost at most so much, and asks for no tree before those of which F holds: what the
-- trees before such a one cost does not count
pub record IsDiagramWithin (costs : Costs) (most : ℕ) (V : List ℕ → Bool) (F : ℕ → Type 0) (s : StoredDiagrams) (n : ℕ) : Type 0 where
  pub number : IsDiagramNumber s n
  pub value : (t : ℕ) (modes : List ℕ) → F t → total_cost costs t modes ≤ most → value s modes n ≡ V modes
  pub from : (t : ℕ) → F t → IsFrom s.nodes t n

-- a call answers the number of such a diagram or refuses; it adds nodes only, and where it says Full the store has its limit
pub record DrawsWithin (costs : Costs) (most : ℕ) (V : List ℕ → Bool) (F : ℕ → Type 0) (old new : StoredDiagrams)
    (r : Result DiagramId DiagramFault) : Type 0 where
  pub grows : GainsNodes old new
  pub ok : IfOk r (λ n. IsDiagramWithin costs most V F new n.n)
  pub full : r ≡ Err Full → length new.nodes ≡ new.limit

-- r is what is left of n where modes that cost more are not asked for
pub record IsTrimmed (costs : Costs) (most : ℕ) (s : StoredDiagrams) (n r : ℕ) : Type 0 where
  pub number : IsDiagramNumber s r
  pub no_more : r ≤ n
  pub value : (t : ℕ) (modes : List ℕ) → IsFrom s.nodes t n → total_cost costs t modes ≤ most
      → value s modes n ≡ value s modes r
  pub from : (t : ℕ) → IsFrom s.nodes t n → IsFrom s.nodes t r

-- f and g are cut at a place: what is left of them, at the modes that cost at most so much, where the tree is at the mode,
-- and where it is not
pub record IsCutWithin (costs : Costs) (most : ℕ) (s : StoredDiagrams) (f g : ℕ) (c : Cut) : Type 0 where
  pub f_rest : (modes : List ℕ) → total_cost costs c.tree modes ≤ most → mode_of modes c.tree ≢ c.mode
      → value s modes f ≡ value s modes c.f0.n
  pub g_rest : (modes : List ℕ) → total_cost costs c.tree modes ≤ most → mode_of modes c.tree ≢ c.mode
      → value s modes g ≡ value s modes c.g0.n
  pub f_taken : (modes : List ℕ) → total_cost costs c.tree modes ≤ most → mode_of modes c.tree ≡ c.mode
      → value s modes f ≡ value s modes c.f1.n
  pub g_taken : (modes : List ℕ) → total_cost costs c.tree modes ≤ most → mode_of modes c.tree ≡ c.mode
      → value s modes g ≡ value s modes c.g1.n
  pub f0_in : IsDiagramNumber s c.f0.n
  pub f1_in : IsDiagramNumber s c.f1.n
  pub g0_in : IsDiagramNumber s c.g0.n
  pub g1_in : IsDiagramNumber s c.g1.n
  pub f0_from : IsFrom s.nodes c.tree c.f0.n
  pub g0_from : IsFrom s.nodes c.tree c.g0.n
  pub f1_from : IsFrom s.nodes (c.tree + 1) c.f1.n
  pub g1_from : IsFrom s.nodes (c.tree + 1) c.g1.n
  pub before : (t : ℕ) → IsFrom s.nodes t f → IsFrom s.nodes t g → t ≤ c.tree
  pub less0 : c.f0.n + c.g0.n < f + g
  pub less1 : c.f1.n + c.g1.n < f + g

-- a store with the costs of modes, and how much is enough
pub record Bounded : Type 0 where
  pub store : StoredDiagrams
  pub costs : Costs
  pub most : ℕ

-- the modes cost no more than is enough
abbrev pub AreAffordable : Bounded → List ℕ → Type 0
AreAffordable s modes = total_cost s.costs 0 modes ≤ s.most

-- nothing has changed but that some nodes came last
pub record GrowsWithin (old new : Bounded) : Type 0 where
  pub store : GainsNodes old.store new.store
  pub costs : new.costs ≡ old.costs
  pub most : new.most ≡ old.most
