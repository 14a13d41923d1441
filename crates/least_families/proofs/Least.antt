-- Families of least sets.
use Rattle.std.proofs.Common.{◌≡◌, ◌<◌, ◌≤◌, ℕ, Bool, true, false, ◌&&◌, ◌||◌, not, List, [], ◌∷◌, Option, Some, None, refl, sym, ap, ap₂, ◌∙◌, subst, ⊎_elim, ◌⊎◌, inl, inr, true≢false}
use Rattle.std.proofs.lemmas.Bool.{and_parts, or_cases}
use Rattle.ar_base.specs.Lists.{IsOneOf}
use Rattle.ar_base.proofs.Standing.{one_first, one_rest}
use Rattle.ar_base.proofs.Truths.{not_true}
use Rattle.ar_firing.specs.CutsInside.{UpTo}
use Rattle.zdd_nodes.specs.Families.{Family, holds, within, has, without}
use Rattle.zdd_nodes.specs.FamiliesInside.{node, IsAbove}
use Rattle.zdd_nodes.proofs.Laws.{within-both, within-more, within-not, has_each}
use Rattle.zdd_nodes.proofs.Members.{within_law, has-without}
use Rattle.zdd_nodes.proofs.Minimal.{within-through}
use Rattle.diagram_steps.proofs.PutIn.{Above, has_node, has_lower, has_upper, above_each, each_above}
use Rattle.least_families.specs.Least.{covers, AreIncomparable, AreLeast, AreLeastUpTo}
use Rattle.least_families.proofs.Covering.{covers_from, covers_self, covered, covers_more, covers_node, covers_without, over, over_within, over_above, covers_over}

-- ---- what a least set is
-- a part of a least set at which the test is true too has all its members
pub least_within : {P : List ℕ → Type 0} {test : List ℕ → Bool} (f : Family) → AreLeast P test f → (s u : List ℕ)
    → has f s ≡ true → within u s ≡ true → P u → test u ≡ true → within s u ≡ true
least_within f a s u h w p t =
    let x = covered f u (a.at u p ∙ t) in
    let ws = within-through x.set u s x.passes w in
    within-through s x.set u (a.apart.least x.set s x.in_family h ws) x.passes

-- of what the test is true where the members above v alone are kept, each least set is above v
pub least_above : {P : List ℕ → Type 0} {test : List ℕ → Bool} (f : Family) (v : ℕ) → AreLeast P test f
    → ((s : List ℕ) → P s → P (over v s)) → ((s : List ℕ) → test s ≡ true → test (over v s) ≡ true) → IsAbove v f
least_above f v a p t = each_above v f (λ s h.
    let w = least_within f a s (over v s) h (over_within v s) (p s (a.each s h))
    (t s (sym (a.at s (a.each s h)) ∙ covers_self f s h)) in
    all_above s (λ x o. over_above v s x ((within_law s (over v s)).0 w x o)))
  where
    all_above : (s : List ℕ) → ((x : ℕ) → IsOneOf s x → v < x) → Above v s
    all_above s h = by s h
      where
        by : (s : List ℕ) → ((x : ℕ) → IsOneOf s x → v < x) → Above v s
        by [] k = tt
        by (y ∷ s) k = (k y (one_first y s), by s (λ x o. k x (one_rest y s x o)))

-- ---- halves
pub apart_lower : (v : ℕ) (lo hi : Family) → AreIncomparable (node v lo hi) → AreIncomparable lo
apart_lower v lo hi a =
    record { least = λ s t h k w. a.least s t (has_lower v lo hi s h) (has_lower v lo hi t k) w }

pub apart_upper : (v : ℕ) (lo hi : Family) → IsAbove v lo → IsAbove v hi → AreIncomparable (node v lo hi) → AreIncomparable hi
apart_upper v lo hi la ha a = record {
  least = λ s t h k w.
      let x = a.least (v ∷ s) (v ∷ t) (has_upper v lo hi s la h) (has_upper v lo hi t la k)
      (within-both v s t (above_each v hi s ha h) ∙ w) in
      sym (within-both v t s (above_each v hi t ha k)) ∙ x;
}

-- ---- a node of least sets
module _ (v : ℕ) (lo hi : Family) (la : IsAbove v lo) (ha : IsAbove v hi) (l : AreIncomparable lo) (h : AreIncomparable hi)
    (free : (t : List ℕ) → has hi t ≡ true → covers lo t ≡ true → ⊥) where
  apart_node_by : (s t : List ℕ)
      → ((u : List ℕ) × (s ≡ v ∷ u) × (has hi u ≡ true)) ⊎ (has lo s ≡ true)
      → ((u : List ℕ) × (t ≡ v ∷ u) × (has hi u ≡ true)) ⊎ (has lo t ≡ true)
      → within s t ≡ true → within t s ≡ true
  apart_node_by s t (inl a) (inl b) w =
      let wab : within (v ∷ a.0) (v ∷ b.0) ≡ true =
      ap₂ (λ x y. within x y) (sym a.1) (sym b.1) ∙ w in
      let inner = h.least a.0 b.0 a.2 b.2 (sym (within-both v a.0 b.0 (above_each v hi a.0 ha a.2)) ∙ wab) in
      ap₂ (λ x y. within x y) b.1 a.1 ∙ within-both v b.0 a.0 (above_each v hi b.0 ha b.2) ∙ inner
  apart_node_by s t (inl a) (inr k) w = absurd (true≢false
      (sym w ∙ ap (λ x. within x t) a.1 ∙ within-not v a.0 t (above_each v lo t la k)))
  apart_node_by s t (inr k) (inl b) w = absurd (free b.0 b.2
      (covers_from lo s b.0 k
      (sym (within-more v s b.0 (above_each v lo s la k)) ∙ ap (λ x. within s x) (sym b.1) ∙ w)))
  apart_node_by s t (inr j) (inr k) w = l.least s t j k w

  pub apart_node : AreIncomparable (node v lo hi)
  apart_node = record { least = λ s t i j w. apart_node_by s t (has_node v lo hi s i) (has_node v lo hi t j) w }

module _ (order : Option ℕ) (test below : List ℕ → Bool) (v : ℕ) (lo hi : Family) (la : IsAbove v lo)
    (ha : IsAbove v hi) (l : AreLeastUpTo order below lo) (h : AreIncomparable hi)
    (free : (t : List ℕ) → has hi t ≡ true → covers lo t ≡ true → ⊥)
    (few : (t : List ℕ) → has hi t ≡ true → UpTo order (v ∷ t))
    (low : (s : List ℕ) → UpTo order s → holds v s ≡ false → test s ≡ below s)
    (high : (s : List ℕ) → UpTo order s → holds v s ≡ true → test s ≡ (covers hi s || covers lo s)) where
  least_each : (s : List ℕ) → ((u : List ℕ) × (s ≡ v ∷ u) × (has hi u ≡ true)) ⊎ (has lo s ≡ true) → UpTo order s
  least_each s (inl a) = subst (UpTo order) (sym a.1) (few a.0 a.2)
  least_each s (inr k) = l.each s k

  least_at : (s : List ℕ) → UpTo order s → (b : Bool) → holds v s ≡ b → covers (node v lo hi) s ≡ test s
  least_at s u false e = covers_node v lo hi s ∙ ap (λ b. (b && covers hi s) || covers lo s) e ∙ l.at s u ∙ sym (low s u e)
  least_at s u true e = covers_node v lo hi s ∙ ap (λ b. (b && covers hi s) || covers lo s) e ∙ sym (high s u e)

  pub least_node : AreLeastUpTo order test (node v lo hi)
  least_node = record {
    apart = apart_node v lo hi la ha l.apart h free;
    each = λ s i. least_each s (has_node v lo hi s i);
    at = λ s u. least_at s u (holds v s) refl;
  }

-- the sets of h that have no set of lo in them
pub without_part : (h lo : Family) (t : List ℕ) → has (without h lo) t ≡ true → has h t ≡ true
without_part h lo t i = (and_parts (has h t) _ (sym (has-without h lo t) ∙ i)).0

pub without_free : (h lo : Family) (t : List ℕ) → has (without h lo) t ≡ true → covers lo t ≡ true → ⊥
without_free h lo t i c = not_true (covers lo t) (and_parts (has h t) _ (sym (has-without h lo t) ∙ i)).1 c

pub apart_without : (h lo : Family) → AreIncomparable h → AreIncomparable (without h lo)
apart_without h lo a =
    record { least = λ s t i j w. a.least s t (without_part h lo s i) (without_part h lo t j) w }

module _ (order : Option ℕ) (test below : List ℕ → Bool) (v : ℕ) (lo h : Family) (la : IsAbove v lo)
    (ha : IsAbove v (without h lo)) (l : AreLeastUpTo order below lo) (a : AreIncomparable h)
    (few : (t : List ℕ) → has h t ≡ true → UpTo order (v ∷ t))
    (low : (s : List ℕ) → UpTo order s → holds v s ≡ false → test s ≡ below s)
    (high : (s : List ℕ) → UpTo order s → holds v s ≡ true → test s ≡ (covers h s || covers lo s)) where
  pub least_without : AreLeastUpTo order test (node v lo (without h lo))
  least_without = least_node order test below v lo (without h lo) la ha l (apart_without h lo a) (without_free h lo)
      (λ t i. few t (without_part h lo t i)) low (λ s u e. high s u e ∙ sym (covers_without h lo s))
