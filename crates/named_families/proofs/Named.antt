-- Unions of numbered families, and the named families that are known.
use Rattle.std.proofs.Common.{◌≡◌, ◌⊎◌, ⊎_elim, inl, inr, ℕ, zero, suc, ◌+◌, ◌<◌, ◌≤◌, List, [], ◌∷◌, ◌++◌, length, take, drop, set, get_or, replicate, refl, sym, ap, ◌∙◌, subst, arith, length-set}
use Rattle.std.proofs.lemmas.Bool.{or_cases, or_left, or_right}
use Rattle.std.proofs.lemmas.List.{length-replicate, take-append-drop}
use Rattle.ar_base.specs.Lists.{Stands, IsOneOf}
use Rattle.ar_base.specs.NumbersInside.{EventId}
use Rattle.ar_base.proofs.Standing.{stands_none, stands_get, stands_left, stands_right, one_left, one_right, one_split}
use Rattle.ar_base.proofs.Items.{last_cases}
use Rattle.zdd_nodes.specs.Families.{Family, has}
use Rattle.zdd_nodes.specs.FamiliesInside.{union}
use Rattle.zdd_nodes.proofs.Members.{has-union}
use Rattle.zdd_nodes.specs.Nodes.{NodeId, Stored, family, IsFamilyNumber}
use Rattle.diagram_steps.specs.Putting.{Extends}
use Rattle.diagram_steps.proofs.Growing as g
use Rattle.named_families.specs.Names.{AreNamed}
use Rattle.named_families.specs.Named.{AreNumbers, HasAllSets, AreKept}
use Rattle.named_families.proofs.Names.{named_small}

-- ---- numbers of a store
pub numbers_none : (s : Stored) → AreNumbers s []
numbers_none s = record { each = λ k n st. absurd (stands_none k n st) }

pub numbers_grow : (s t : Stored) (ns : List NodeId) → Extends s t → AreNumbers s ns → AreNumbers t ns
numbers_grow s t ns e a = record { each = λ k n st. g.still s t n.n e (a.each k n st) }

pub numbers_more : (s : Stored) (ns : List NodeId) (n : NodeId) → AreNumbers s ns → IsFamilyNumber s n.n
    → AreNumbers s (ns ++ n ∷ [])
numbers_more s ns n a h = record {
  each = λ k m st. ⊎_elim
      (λ o. a.each o.place m o.stands)
      (λ same. subst (λ (x : NodeId). IsFamilyNumber s x.n) same h)
      (last_cases ns n m (record { place = k; stands = st }));
}

pub number_one : (s : Stored) (ns : List NodeId) (n : NodeId) → AreNumbers s ns → IsOneOf ns n → IsFamilyNumber s n.n
number_one s ns n a o = a.each o.place n o.stands

pub number_first : (s : Stored) (ns : List NodeId) (d : NodeId) → length ns ≡ 1 → AreNumbers s ns
    → IsFamilyNumber s (get_or ns 0 d).n
number_first s ns d e a = a.each 0 (get_or ns 0 d) (stands_get ns 0 d (omega (arith, e)))

pub numbers_front : (s : Stored) (ns : List NodeId) (i : ℕ) → AreNumbers s ns → AreNumbers s (take i ns)
numbers_front s ns i a = record {
  each = λ k n st. a.each k n (subst (λ z. Stands z k n) (take-append-drop i ns)
      (stands_left (take i ns) (drop i ns) k n st));
}

pub numbers_rest : (s : Stored) (ns : List NodeId) (i : ℕ) → AreNumbers s ns → AreNumbers s (drop i ns)
numbers_rest s ns i a = record {
  each = λ k n st. a.each (length (take i ns) + k) n (subst (λ z. Stands z (length (take i ns) + k) n)
      (take-append-drop i ns) (stands_right (take i ns) (drop i ns) k (length (take i ns) + k) n refl st));
}

-- ---- unions
-- the sets of two lists of families are those of the union of both unions
module _ (s t : Stored) (front rest : List NodeId) (f h : Family) (e : Extends s t) (a : AreNumbers s rest)
    (p : HasAllSets s front f) (q : HasAllSets t rest h) where
  same : (n : NodeId) → IsOneOf rest n → family t n.n ≡ family s n.n
  same n o = g.kept s t n.n e (number_one s rest n a o)

  all_joined : HasAllSets s (front ++ rest) (union f h)
  all_joined = record {
    sound = λ x k. ⊎_elim
        (λ l. let w = p.sound x l in (w.0, one_left front rest w.0 w.1, w.2))
        (λ r. let w = q.sound x r in
        (w.0, one_right front rest w.0 w.1, ap (λ z. has z x) (sym (same w.0 w.1)) ∙ w.2))
        (or_cases (has f x) (has h x) (sym (has-union f h x) ∙ k));
    whole = λ n x o k. has-union f h x ∙ ⊎_elim
        (λ l. or_left (has f x) (has h x) (p.whole n x l k))
        (λ r. or_right (has f x) (has h x) (q.whole n x r (ap (λ z. has z x) (same n r) ∙ k)))
        (one_split front rest n o);
  }

pub all_both : (s t : Stored) (ns : List NodeId) (i : ℕ) (f h : Family) → Extends s t → AreNumbers s ns
    → HasAllSets s (take i ns) f → HasAllSets t (drop i ns) h → HasAllSets s ns (union f h)
all_both s t ns i f h e a p q = subst (λ z. HasAllSets s z (union f h)) (take-append-drop i ns)
    (all_joined s t (take i ns) (drop i ns) f h e (numbers_rest s ns i a) p q)

-- ---- the named families that are known
pub kept_grow : (names : List EventId) (source s t : Stored) (ks : List NodeId) → Extends s t
    → AreKept names source s ks → AreKept names source t ks
kept_grow names source s t ks e a = record {
  long = a.long;
  each = λ k n st. ⊎_elim
      (λ z. inl z)
      (λ y. inr (
        g.still s t n.n e y.0,
        subst (AreNamed names (family source k)) (sym (g.kept s t n.n e y.0)) y.1,
      ))
      (a.each k n st);
}

set_cases : (ks : List NodeId) (k : ℕ) (n : NodeId) (j : ℕ) (m : NodeId) → Stands (set ks k n) j m
    → Stands ks j m ⊎ ((j ≡ k) × (m ≡ n))
set_cases [] k n j m st = inl st
set_cases (c ∷ ks) zero n zero m st = inr (refl, cc)
set_cases (c ∷ ks) zero n (suc j) m st = inl st
set_cases (c ∷ ks) (suc k) n zero m st = inl st
set_cases (c ∷ ks) (suc k) n (suc j) m st =
    ⊎_elim (λ p. inl p) (λ q. inr (ap suc q.0, q.1)) (set_cases ks k n j m st)

pub kept_set : (names : List EventId) (source s : Stored) (ks : List NodeId) (k : ℕ) (n : NodeId)
    → AreKept names source s ks → IsFamilyNumber s n.n → AreNamed names (family source k) (family s n.n)
    → AreKept names source s (set ks k n)
kept_set names source s ks k n a h w = record {
  long = length-set ks k n ∙ a.long;
  each = λ j m st. ⊎_elim
      (λ p. a.each j m p)
      (λ q. inr (
        subst (λ (x : NodeId). IsFamilyNumber s x.n) (sym q.1) h,
        subst (λ (x : NodeId). AreNamed names (family source j) (family s x.n)) (sym q.1)
            (subst (λ i. AreNamed names (family source i) (family s n.n)) (sym q.0) w),
      ))
      (set_cases ks k n j m st);
}

none_stand : (count : ℕ) (z : NodeId) (k : ℕ) (n : NodeId) → Stands (replicate count z) k n → n ≡ z
none_stand zero z k n st = absurd (stands_none k n st)
none_stand (suc count) z zero n st = cc
none_stand (suc count) z (suc k) n st = none_stand count z k n st

pub kept_none : (names : List EventId) (source s : Stored) (ks : List NodeId) (z : NodeId) → z.n ≡ 0
    → ks ≡ replicate (length source.families + 2) z → AreKept names source s ks
kept_none names source s ks z e is = record {
  long = ap length is ∙ length-replicate (length source.families + 2) z;
  each = λ k n st. inl (ap (λ (x : NodeId). x.n) (none_stand (length source.families + 2) z k n
      (subst (λ y. Stands y k n) is st)) ∙ e);
}

small_named : (names : List EventId) (source s : Stored) (k : ℕ) (n : NodeId) → k < 2 → n.n ≡ k
    → IsFamilyNumber s n.n × AreNamed names (family source k) (family s n.n)
small_named names source s k n h e = (
  omega (arith, h, e),
  subst (λ i. AreNamed names (family source k) (family s i)) (sym e) (named_small names source s k h),
)

-- the number of a named family that is known, or of one that is the same in each store
pub known_named : (names : List EventId) (source s : Stored) (ks : List NodeId) (k : ℕ) (d n : NodeId)
    → IsFamilyNumber source k → AreKept names source s ks → (k < 2 → n.n ≡ k) → (2 ≤ k → n ≡ get_or ks k d)
    → (k < 2) ⊎ ((get_or ks k d).n ≡ 0 → ⊥)
    → IsFamilyNumber s n.n × AreNamed names (family source k) (family s n.n)
known_named names source s ks zero d n h a small others known = small_named names source s zero n (omega arith)
    (small (omega arith))
known_named names source s ks (suc zero) d n h a small others known = small_named names source s 1 n (omega arith)
    (small (omega arith))
known_named names source s ks (suc (suc k)) d n h a small others known =
    let st : Stands ks (suc (suc k)) n = subst (λ (x : NodeId). Stands ks (suc (suc k)) x)
    (sym (others (omega arith))) (stands_get ks (suc (suc k)) d (omega (arith, h, a.long))) in
    ⊎_elim
    (λ z. absurd (⊎_elim (λ l. omega (arith, l)) (λ f. f (ap (λ (x : NodeId). x.n) (sym (others (omega arith))) ∙ z)) known))
    (λ y. y)
    (a.each (suc (suc k)) n st)
