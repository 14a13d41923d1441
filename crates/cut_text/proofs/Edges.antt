-- The edges of trees.
use Rattle.std.proofs.Common.{◌≡◌, ◌≤◌, ℕ, zero, suc, List, [], ◌∷◌, length, ap, arith}
use Rattle.ar_base.specs.Lists.{Stands, IsOneOf}
use Rattle.cut_text.specs.ForestPrinted.{edge_count}
use Rattle.mode_trees.specs.declared.forests.ModeTree.{ModeTree}

-- a tree has no more edges than all trees
pub edges_of_one : (ts : List ModeTree) (t : ModeTree) → IsOneOf ts t → length t.edges.items ≤ edge_count ts
edges_of_one ts t o = go ts o.place o.stands
  where
    go : (us : List ModeTree) (n : ℕ) → Stands us n t → length t.edges.items ≤ edge_count us
    go [] zero s = cc
    go [] (suc n) s = cc
    go (u ∷ us) zero s = let i : u ≡ t = cc in let l = ap (λ (z : ModeTree). length z.edges.items) i in omega (arith, l)
    go (u ∷ us) (suc n) s = let r = go us n s in omega (arith, r)
