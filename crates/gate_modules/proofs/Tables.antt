-- The table of families that agree.
use Rattle.std.proofs.Common.{◌≡◌, ⊎_elim, ◌⊎◌, inl, inr, ℕ, zero, suc, ◌<◌, List, [], ◌∷◌, slice_set, refl, sym, ap, subst}
use Rattle.ar_base.specs.Lists.{Stands}
use Rattle.zdd_nodes.specs.Nodes.{Stored, family}
use Rattle.gate_modules.specs.Ends.{Agree}
use Rattle.gate_modules.specs.Walked.{AreTwins}
use Rattle.gate_modules.specs.declared.twins.Twin.{Twin}

-- what stands after an item was put in its place
pub stands_set : {A : Type 0} (xs : List A) (n k : ℕ) (x a : A) → Stands (slice_set xs n x) k a
    → ((k ≡ n) × (a ≡ x)) ⊎ Stands xs k a
stands_set [] n k x a h = inr h
stands_set (y ∷ xs) zero zero x a h = inl (refl, let e : x ≡ a = cc in sym e)
stands_set (y ∷ xs) zero (suc k) x a h = inr h
stands_set (y ∷ xs) (suc n) zero x a h = inr h
stands_set (y ∷ xs) (suc n) (suc k) x a h = ⊎_elim (λ t. inl (ap suc t.0, t.1)) (λ t. inr t) (stands_set xs n k x a h)

pub twins_set : (s : Stored) (twins : List Twin) (n : ℕ) (t : Twin) → AreTwins s twins
    → Agree t.to (family s n) (family s t.node.n) (family s t.end.n) (family s t.node_end.n)
    → AreTwins s (slice_set twins n t)
twins_set s twins n t known g = record { each = λ k u h l. at k u (stands_set twins n k t u h) l }
  where
    at : (k : ℕ) (u : Twin) → ((k ≡ n) × (u ≡ t)) ⊎ Stands twins k u → 0 < u.node.n
        → Agree u.to (family s k) (family s u.node.n) (family s u.end.n) (family s u.node_end.n)
    at k u (inl e) l = subst (λ (w : Twin). Agree w.to (family s k) (family s w.node.n) (family s w.end.n)
        (family s w.node_end.n)) (sym e.1)
        (subst (λ j. Agree t.to (family s j) (family s t.node.n) (family s t.end.n) (family s t.node_end.n)) (sym e.0)
        g)
    at k u (inr h) l = known.each k u h l
