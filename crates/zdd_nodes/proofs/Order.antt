-- A node's family is kept in order.
use Rattle.std.proofs.Common.{◌≡◌, ℕ, ◌<◌, cond, eqb, List, [], ◌∷◌, map, refl, ap, ◌∙◌, lt-ltb, Less, Equal, Greater}
use Rattle.std.specs.List.{AllByRecursion}
use Rattle.std.specs.Ordering.{ordering_then}
use Rattle.zdd_nodes.specs.Families.{Family}
use Rattle.zdd_nodes.specs.FamiliesInside.{node, IsAbove, IsFamily, order}
use Rattle.zdd_nodes.proofs.Ascending.{ascends_nil, ascends_cons}
use Rattle.zdd_nodes.proofs.Laws.{each-append, order-with}

order_above : (v : ℕ) (s t : List ℕ) → AllByRecursion (λ x. v < x) t → order (v ∷ s) t ≡ Less
order_above v s [] a = refl
order_above v s (x ∷ t) a = ap (λ b. ordering_then (cond b Less (cond (eqb v x) Equal Greater)) (order s t))
    (lt-ltb v x a.0)

all_with : (v : ℕ) (s : List ℕ) (hi : Family) → AllByRecursion (λ t. order s t ≡ Less) hi
    → AllByRecursion (λ t. order (v ∷ s) t ≡ Less) (map (λ t. v ∷ t) hi)
all_with v s [] a = tt
all_with v s (t ∷ hi) a = (order-with v s t ∙ a.0, all_with v s hi a.1)

all_after : (v : ℕ) (s : List ℕ) (lo : Family) → IsAbove v lo → AllByRecursion (λ t. order (v ∷ s) t ≡ Less) lo
all_after v s [] a = tt
all_after v s (t ∷ lo) a = (order_above v s t a.0, all_after v s lo a.1)

pub IsFamily-node : (v : ℕ) (lo hi : Family) → IsAbove v lo → IsAbove v hi → IsFamily lo → IsFamily hi
    → IsFamily (node v lo hi)
IsFamily-node v lo [] a b l h = l
IsFamily-node v lo (s ∷ hi) a b l h =
    let r = IsFamily-node v lo hi a b.1 l (record { ascending = h.ascending.1; in_order = h.in_order.1 }) in
    record {
      ascending = (ascends_cons v s b.0 h.ascending.0, r.ascending);
      in_order = (
        each-append (λ t. order (v ∷ s) t ≡ Less) (map (λ t. v ∷ t) hi) lo (all_with v s hi h.in_order.0)
            (all_after v s lo a),
        r.in_order,
      );
    }

pub IsFamily-nil : IsFamily []
IsFamily-nil = record { ascending = tt; in_order = tt }

pub IsFamily-unit : IsFamily ([] ∷ [])
IsFamily-unit = record { ascending = (ascends_nil, tt); in_order = (tt, tt) }
