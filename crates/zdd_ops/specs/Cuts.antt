-- Two families at the least event of both.
use Rattle.std.specs.Prelude.{◌≡◌, ℕ, ◌+◌, ◌<◌, ◌≤◌, List, length}
use Rattle.zdd_nodes.specs.Families.{Family}
use Rattle.zdd_nodes.specs.FamiliesInside.{node, IsAbove}
use Rattle.zdd_nodes.specs.Nodes.{at}
use Rattle.zdd_ops.specs.declared.cut.Cut.{Cut}
use Rattle.zdd_ops.specs.declared.cut.Operands.{Operands}
use Rattle.zdd_ops.specs.declared.memo.Join.{Join}
use Rattle.zdd_ops.specs.Operations.{join_of}

-- the halves of the numbers f and g at the least event of both; the halves are earlier numbers of greater events
pub record AreCofactors (fs : List Family) (f g : ℕ) (c : Cut) : Type 0 where
  pub f_is : at fs f ≡ node c.event.n (at fs c.f0.n) (at fs c.f1.n)
  pub g_is : at fs g ≡ node c.event.n (at fs c.g0.n) (at fs c.g1.n)
  pub f0_in : c.f0.n < length fs + 2
  pub f1_in : c.f1.n < length fs + 2
  pub g0_in : c.g0.n < length fs + 2
  pub g1_in : c.g1.n < length fs + 2
  pub f0_above : IsAbove c.event.n (at fs c.f0.n)
  pub f1_above : IsAbove c.event.n (at fs c.f1.n)
  pub g0_above : IsAbove c.event.n (at fs c.g0.n)
  pub g1_above : IsAbove c.event.n (at fs c.g1.n)
  pub less00 : c.f0.n + c.g0.n < f + g
  pub less11 : c.f1.n + c.g1.n < f + g
  pub less10 : c.f1.n + c.g0.n < f + g

-- what is left of a family where it is its lower half again and again, each time at an event below all events of f and
-- of
-- both halves
pub data IsLower (f g : Family) : Family → Type 0 where
  whole : IsLower f g g
  half : (v : ℕ) (lo hi : Family) → IsAbove v f → IsAbove v lo → IsAbove v hi → IsLower f g (node v lo hi)
      → IsLower f g lo

-- r is the number of what is left of g
pub record IsLeftOf (fs : List Family) (f g r : ℕ) : Type 0 where
  pub left_in : r < length fs + 2
  pub no_more : r ≤ g
  pub lower : IsLower (at fs f) (at fs g) (at fs r)

-- a join of what is left of both is that of both, and the numbers are no greater
pub record ArePassed (fs : List Family) (join : Join) (f g : ℕ) (left : Operands) : Type 0 where
  pub f_in : left.f.n < length fs + 2
  pub g_in : left.g.n < length fs + 2
  pub f_no_more : left.f.n ≤ f
  pub g_no_more : left.g.n ≤ g
  pub same : join_of join (at fs f) (at fs g) ≡ join_of join (at fs left.f.n) (at fs left.g.n)
