-- One step of the walk: the halves of a state at its least event.
use Rattle.std.proofs.Common.{◌≡◌, ◌⊎◌, ⊎_elim, ℕ, zero, suc, ◌+◌, ◌<◌, Bool, true, false, ◌||◌, List, [], ◌∷◌, ◌++◌, map, refl, sym, ap, ap₂, ◌∙◌, subst, arith, true≢false}
use Rattle.std.proofs.lemmas.List.{map-append}
use Rattle.std.proofs.lemmas.List.Folds.{list_any-append}
use Rattle.ar_base.specs.Lists.{Stands}
use Rattle.ar_base.proofs.Standing.{stands_none, stands_split}
use Rattle.zdd_nodes.specs.Families.{Family}
use Rattle.zdd_nodes.specs.FamiliesInside.{IsAbove}
use Rattle.zdd_nodes.specs.Sections.{lower}
use Rattle.zdd_nodes.proofs.Laws.{IsAbove-node}
use Rattle.zdd_nodes.specs.Nodes.{NodeId, Stored, family, IsFamilyNumber, IsNode}
use Rattle.firable_families.specs.Walk.{occurs, some_occurs, taken}
use Rattle.firable_families.proofs.Halving.{none_above, lower_above, taken_above, lower_node, occurs_node, taken_node}
use Rattle.firable_families.proofs.Merging.{place_some}
use Rattle.gate_diagrams.specs.Walked.{families_left, sum_of_numbers, half_of, IsHalfNumber, AreHalves}

-- ---- one tree
module _ (s : Stored) (f v lo hi : ℕ) (i : IsNode s.families f v lo hi) (f_in : IsFamilyNumber s f) where
  pub node_has : occurs v (family s f) ≡ true
  node_has = ap (occurs v) i.is ∙ occurs_node v (family s lo) (family s hi) i.lo_above i.hi_above i.hi_some

  above : (x : ℕ) → x < v → IsAbove x (family s f)
  above x l = subst (IsAbove x) (sym i.is) (IsAbove-node x v (family s lo) (family s hi) l i.lo_above i.hi_above)

  pub node_lacks : (x : ℕ) → x < v → occurs x (family s f) ≡ false
  node_lacks x l = none_above x (family s f) (above x l)

  -- a later event is not the tree's turn
  pub half_stays : (e : ℕ) (b : Bool) → ((x : ℕ) → x < e → occurs x (family s f) ≡ false) → (v ≡ e → ⊥)
      → IsHalfNumber s e b f f
  half_stays e b least other = record {
    in_store = f_in;
    is = by b;
    no_greater = omega arith;
    smaller = λ h. absurd (true≢false (sym h ∙ node_lacks e late));
  }
    where
      order : (v < e) ⊎ ((v ≡ e) ⊎ (e < v))
      order = grind arith

      late : e < v
      late = ⊎_elim (λ l. absurd (true≢false (sym node_has ∙ least v l)))
          (λ r. ⊎_elim (λ q. absurd (other q)) (λ l. l) r) order

      by : (b : Bool) → family s f ≡ half_of b e (family s f)
      by true = sym (taken_above e (family s f) (above e late))
      by false = sym (lower_above e (family s f) (above e late))

  pub half_takes : (e : ℕ) (b : Bool) → v ≡ e → b ≡ true → IsHalfNumber s e b f hi
  half_takes e b q t = subst (λ z. IsHalfNumber s z b f hi) q (subst (λ z. IsHalfNumber s v z f hi) (sym t) (record {
    in_store = omega (arith, i.hi_before, f_in);
    is = sym (ap (taken v) i.is ∙ taken_node v (family s lo) (family s hi) i.lo_above i.hi_above i.hi_some);
    no_greater = omega (arith, i.hi_before);
    smaller = λ h. i.hi_before;
  }))

  pub half_leaves : (e : ℕ) (b : Bool) → v ≡ e → b ≡ false → IsHalfNumber s e b f lo
  half_leaves e b q t = subst (λ z. IsHalfNumber s z b f lo) q (subst (λ z. IsHalfNumber s v z f lo) (sym t) (record {
    in_store = omega (arith, i.lo_before, f_in);
    is = sym (ap (lower v) i.is ∙ lower_node v (family s lo) (family s hi) i.lo_above i.hi_above);
    no_greater = omega (arith, i.lo_before);
    smaller = λ h. i.lo_before;
  }))

-- ---- a whole state
-- none of the families has what the whole state lacks
pub lacks_at : (x : ℕ) (fs : List Family) (k : ℕ) (f : Family) → Stands fs k f → some_occurs x fs ≡ false
    → occurs x f ≡ false
lacks_at x fs k f s h = step (occurs x f) refl
  where
    step : (b : Bool) → occurs x f ≡ b → occurs x f ≡ false
    step true e = absurd (true≢false (sym (place_some (occurs x) fs k f s e) ∙ h))
    step false e = e

pub families_more : (s : Stored) (os ps : List NodeId)
    → families_left s (os ++ ps) ≡ families_left s os ++ families_left s ps
families_more s os ps = map-append (λ (n : NodeId). family s n.n) os ps

total_more : (os : List NodeId) (o : NodeId) → sum_of_numbers (os ++ o ∷ []) ≡ sum_of_numbers os + o.n
total_more [] o = omega arith
total_more (p ∷ os) o = omega (arith, total_more os o)

pub halves_none : (s : Stored) (e : ℕ) (b : Bool) → AreHalves s e b [] []
halves_none s e b = record {
  in_store = record { each = λ k n i. absurd (stands_none k n i) };
  are = refl;
  no_greater = omega arith;
  smaller = λ h. absurd (true≢false (sym h));
}

pub halves_more : (s : Stored) (e : ℕ) (b : Bool) (os ns : List NodeId) (o n : NodeId) → AreHalves s e b os ns
    → IsHalfNumber s e b o.n n.n
    → AreHalves s e b (os ++ o ∷ []) (ns ++ n ∷ [])
halves_more s e b os ns o n a h = record {
  in_store = record {
    each = λ k m i. ⊎_elim (λ j. a.in_store.each k m j) (λ j. last j.0 m j.2)
        (stands_split ns (n ∷ []) k m i);
  };
  are = families_more s ns (n ∷ [])
      ∙ ap₂ (λ (xs : List Family) (x : Family). xs ++ x ∷ []) a.are h.is
      ∙ sym (ap (map (half_of b e)) (families_more s os (o ∷ []))
      ∙ map-append (half_of b e) (families_left s os) (families_left s (o ∷ [])));
  no_greater = omega (arith, total_more os o, total_more ns n, a.no_greater, h.no_greater);
  smaller = λ x. either (some_occurs e (families_left s os)) refl
      (sym (ap (some_occurs e) (families_more s os (o ∷ []))
      ∙ list_any-append (occurs e) (families_left s os) (families_left s (o ∷ []))) ∙ x);
}
  where
    last : (j : ℕ) (m : NodeId) → Stands (n ∷ []) j m → IsFamilyNumber s m.n
    last zero m i = let q : n ≡ m = cc in subst (λ (z : NodeId). IsFamilyNumber s z.n) q h.in_store
    last (suc j) m i = absurd (stands_none j m i)

    alone : (c : Bool) → (c || false) ≡ true → c ≡ true
    alone true x = x
    alone false x = x

    either : (c : Bool) → some_occurs e (families_left s os) ≡ c
        → (some_occurs e (families_left s os) || (occurs e (family s o.n) || false)) ≡ true
        → sum_of_numbers (ns ++ n ∷ []) < sum_of_numbers (os ++ o ∷ [])
    either true q x = omega (arith, total_more os o, total_more ns n, a.smaller q, h.no_greater)
    either false q x =
        let y : occurs e (family s o.n) ≡ true =
        alone (occurs e (family s o.n)) (ap (λ c. c || (occurs e (family s o.n) || false)) (sym q) ∙ x) in
        omega (arith, total_more os o, total_more ns n, a.no_greater, h.smaller y)
