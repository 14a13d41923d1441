-- Numbers whose families have no event below a bound.
use Rattle.std.proofs.Common.{◌<◌, ◌≤◌, ℕ, zero, suc, List, [], ◌∷◌, sym, subst, arith}
use Rattle.std.specs.List.{AllByRecursion}
use Rattle.zdd_nodes.specs.Families.{Family}
use Rattle.zdd_nodes.specs.FamiliesInside.{node, IsAbove}
use Rattle.zdd_nodes.proofs.Laws.{IsAbove_set, each_of}
use Rattle.zdd_nodes.specs.Nodes.{Stored, family, IsNode}
use Rattle.zdd_nodes.specs.Bounds.{AtLeast, EndsBelow}

at_least : (to v : ℕ) (s : List ℕ) → to ≤ v → IsAbove_set v s → AtLeast to s
at_least to v [] l a = tt
at_least to v (x ∷ s) l a = (omega (arith, l, a.0), at_least to v s l a.1)

node_at_least : (to v : ℕ) (f0 f1 : Family) → to ≤ v → IsAbove v f0 → IsAbove v f1
    → AllByRecursion (AtLeast to) (node v f0 f1)
node_at_least to v f0 [] l a b = each_of (IsAbove_set v) (AtLeast to) (λ s k. at_least to v s l k) f0 a
node_at_least to v f0 (s ∷ f1) l a b = ((l, at_least to v s l b.0), node_at_least to v f0 f1 l a b.1)

pub ends_at_node : (s : Stored) (to n v lo hi : ℕ) → IsNode s.families n v lo hi → to ≤ v → EndsBelow s to n
ends_at_node s to n v lo hi i l = record {
  at_least = subst (AllByRecursion (AtLeast to)) (sym i.is)
      (node_at_least to v (family s lo) (family s hi) l i.lo_above i.hi_above);
}

pub ends_at_leaf : (s : Stored) (to n : ℕ) → n < 2 → EndsBelow s to n
ends_at_leaf s to zero l = record { at_least = tt }
ends_at_leaf s to (suc zero) l = record { at_least = (tt, tt) }
ends_at_leaf s to (suc (suc n)) l = absurd (omega (arith, l))
