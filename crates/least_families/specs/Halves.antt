-- Two families at the least event of both.
use Rattle.std.specs.Prelude.{◌≡◌, ℕ, ◌+◌, ◌<◌, List, length}
use Rattle.zdd_nodes.specs.Families.{Family}
use Rattle.zdd_nodes.specs.FamiliesInside.{node, IsAbove}
use Rattle.zdd_nodes.specs.Nodes.{at}
use Rattle.least_families.specs.declared.halves.Halves.{Halves}

-- the halves of the numbers f and g at the least event of both; the halves are earlier numbers of greater events
pub record AreLeastHalves (fs : List Family) (f g : ℕ) (h : Halves) : Type 0 where
  pub f_is : at fs f ≡ node h.event.n (at fs h.f0.n) (at fs h.f1.n)
  pub g_is : at fs g ≡ node h.event.n (at fs h.g0.n) (at fs h.g1.n)
  pub f0_in : h.f0.n < length fs + 2
  pub f1_in : h.f1.n < length fs + 2
  pub g0_in : h.g0.n < length fs + 2
  pub g1_in : h.g1.n < length fs + 2
  pub f0_above : IsAbove h.event.n (at fs h.f0.n)
  pub f1_above : IsAbove h.event.n (at fs h.f1.n)
  pub g0_above : IsAbove h.event.n (at fs h.g0.n)
  pub g1_above : IsAbove h.event.n (at fs h.g1.n)
  pub less00 : h.f0.n + h.g0.n < f + g
  pub less01 : h.f0.n + h.g1.n < f + g
  pub less10 : h.f1.n + h.g0.n < f + g
  pub less11 : h.f1.n + h.g1.n < f + g
