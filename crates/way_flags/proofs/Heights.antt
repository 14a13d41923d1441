-- How many joints stand above one another in a way and in its parts.
use Rattle.std.proofs.Common.{◌≡◌, ◌<◌, ◌≤◌, ℕ, zero, suc, ◌-◌, Bool, List, [], ◌∷◌, map, subst, arith}
use Rattle.ar_base.specs.Lists.{Stands}
use Rattle.ar_base.proofs.Standing.{stands_one, stands_map, stands_none}
use Rattle.std.proofs.Math.Nat.{le-max_left, le-max_right, le_trans}
use Rattle.ar_meaning.specs.Systems as s
use Rattle.ar_meaning.specs.Numbered.{Body, Acts, Joins, Means_way, leaf, joint, Mean_parts, part, height, branches_height}
use Rattle.ar_base.specs.Numbers.{WayId}
use Rattle.gts_core.specs.View.{IsWayAt, way_bodies, body_of_way, part_of}
use Rattle.gts_core.specs.declared.system.Way.{Way}
use Rattle.gts_core.specs.declared.system.GtsParts.{GtsParts}

-- the ways of these parts, no more than so many joints high
pub record HaveTrees (p : GtsParts) (parts : List (Bool × WayId)) (left : ℕ) : Type 0 where
  pub branches : s.Branches (s.Transition ℕ)
  pub means : Mean_parts (way_bodies p) (map part_of parts) branches
  pub low : branches_height branches ≤ left

-- the parts of a joint are lower than it
pub parts_lower : (p : GtsParts) (n left : ℕ) (w : s.Way ℕ) (x : Way) (parts : List (Bool × WayId)) → IsWayAt p n w
    → height w ≤ left → Stands p.ways.items n x
    → body_of_way x ≡ Joins (map part_of parts) → (0 < left) × HaveTrees p parts (left - 1)
parts_lower p n left w x parts means low st is =
    go w means low (subst (λ (b : Body (s.Transition ℕ)). Stands (way_bodies p) n b) is
    (stands_map body_of_way p.ways.items n x st))
  where
    go : (w : s.Way ℕ) → Means_way (way_bodies p) n w → height w ≤ left
        → Stands (way_bodies p) n (Joins (map part_of parts)) → (0 < left) × HaveTrees p parts (left - 1)
    go (s.Leaf l) (leaf e) low t = let both : Acts l ≡ Joins (map part_of parts) = stands_one (way_bodies p) n (Acts l) (Joins (map part_of parts)) e t in absurd (cc)
    go (s.Joint bs) (joint {parts = ps} e m) low t =
        let both : Joins ps ≡ Joins (map part_of parts) =
        stands_one (way_bodies p) n (Joins ps) (Joins (map part_of parts)) e t in
        let same : ps ≡ map part_of parts = cc in
        let small : suc (branches_height bs) ≤ left = low in (
          omega (arith, small),
          record {
            branches = bs;
            means = subst (λ (z : List (Bool × ℕ)). Mean_parts (way_bodies p) z bs) same m;
            low = omega (arith, small);
          },
        )

-- a tree no higher than so much that the number of a way stands for
abbrev pub HasTree : GtsParts → ℕ → ℕ → Type 0
HasTree p n left = (w : s.Way ℕ) × IsWayAt p n w × (height w ≤ left)

-- each part is no higher than all of them
pub part_low : (p : GtsParts) (parts : List (Bool × WayId)) (bs : s.Branches (s.Transition ℕ)) (left k : ℕ)
    (q : Bool × WayId) → Mean_parts (way_bodies p) (map part_of parts) bs
    → branches_height bs ≤ left → Stands parts k q → HasTree p q.1.n left
part_low p [] bs left k q means low st = absurd (stands_none k q st)
part_low p (r ∷ parts) s.Empty left k q means low st = elim means [ ]
part_low p (r ∷ parts) (s.Branch must t bs) left zero q (part m ms) low st =
    let same : r ≡ q = cc in
    subst (λ (z : Bool × WayId). HasTree p z.1.n left) same
    (t, m, le_trans (le-max_left (height t) (branches_height bs)) low)
part_low p (r ∷ parts) (s.Branch must t bs) left (suc k) q (part m ms) low st =
    part_low p parts bs left k q ms (le_trans (le-max_right (height t) (branches_height bs)) low) st
