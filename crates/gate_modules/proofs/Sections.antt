-- Sections of nodes, by whether the taken events begin with the node's.
use Rattle.std.proofs.Common.{◌≡◌, ◌≢◌, ◌⊎◌, inl, inr, ⊎_elim, ℕ, ◌<◌, Bool, true, false, cond, ◌&&◌, eqb, List, [], ◌∷◌, length, map, drop, filter, lt-ltb, lt_irrefl, refl, sym, ap, ap₂, ◌∙◌, subst, eqb-true, true≢false}
use Rattle.std.specs.List.{AllByRecursion}
use Rattle.zdd_nodes.specs.Families.{Family, same}
use Rattle.zdd_nodes.specs.FamiliesInside.{node, IsAbove}
use Rattle.zdd_nodes.specs.Sections.{below, section}
use Rattle.zdd_nodes.proofs.Laws.{IsAbove_set, filter-node, filter-none, every, same-refl, eqb-refl, eqb-above}
use Rattle.zdd_nodes.proofs.Sections.{AtLeast, section-with, section-above, section-low, section-low_none}
use Rattle.gate_modules.specs.Ends.{Alike, Agree, AgreeSome}

-- whether the taken events begin with v
abbrev pub starts : ℕ → List ℕ → Bool
starts v [] = false
starts v (x ∷ p) = eqb v x

pub starts_above : (v : ℕ) (p : List ℕ) → IsAbove_set v p → starts v p ≡ false
starts_above v [] a = refl
starts_above v (x ∷ p) a = eqb-above v x a.0

pub section_lower : (v i : ℕ) (p : List ℕ) (lo hi : Family) → v < i → starts v p ≡ false
    → section i p (node v lo hi) ≡ section i p lo
unfolding section
section_lower v i p lo hi h s =
    let q = λ (t : List ℕ). same (below i t) p in
    ap (map (drop (length p))) (filter-node v q lo hi
    ∙ ap (node v (filter q lo)) (filter-none (λ t. q (v ∷ t)) hi
    (every (λ t. q (v ∷ t) ≡ false) (λ t. ap (λ b. same (cond b (v ∷ below i t) (below i t)) p) (lt-ltb v i h)
    ∙ other p s (below i t)) hi)))
  where
    other : (p : List ℕ) → starts v p ≡ false → (t : List ℕ) → same (v ∷ t) p ≡ false
    other [] s t = refl
    other (x ∷ p) s t = ap (λ b. b && same t p) s

pub section_started : (v i : ℕ) (p : List ℕ) (f : Family) → IsAbove v f → starts v p ≡ true → section i p f ≡ []
section_started v i [] f a s = absurd (true≢false (sym s))
section_started v i (x ∷ p) f a s =
    ⊎_elim (λ e. e) (λ above. absurd (lt_irrefl v (subst (λ z. v < z) (sym (eqb-true v x s)) above.0)))
    (section-above v i (x ∷ p) f a)

-- some events are taken by a family that is not empty
pub section_some : (i : ℕ) (f : Family) → f ≢ [] → (p : List ℕ) × (section i p f ≢ [])
unfolding section
section_some i [] n = absurd (n refl)
section_some i (s ∷ f) n = (below i s, λ e. nonempty (same-refl (below i s)) e)
  where
    nonempty : same (below i s) (below i s) ≡ true
        → map (drop (length (below i s))) (filter (λ t. same (below i t) (below i s)) (s ∷ f)) ≡ [] → ⊥
    nonempty k e =
        let r : drop (length (below i s)) s ∷ map (drop (length (below i s)))
        (filter (λ t. same (below i t) (below i s)) f) ≡ [] =
        sym (ap (λ b. map (drop (length (below i s)))
        (cond b (s ∷ filter (λ t. same (below i t) (below i s)) f) (filter (λ t. same (below i t) (below i s)) f)))
        k) ∙ e in
        cc

-- what of a family that has no event below the bound follows the events: it all follows none
pub section_end : (i : ℕ) (p : List ℕ) (f : Family) → AllByRecursion (AtLeast i) f
    → ((p ≡ []) × (section i p f ≡ f)) ⊎ ((p ≢ []) × (section i p f ≡ []))
section_end i [] f a = inl (refl, section-low i f a)
section_end i (x ∷ p) f a = inr ((λ e. cc), section-low_none i x p f a)

-- by the node: the taken events begin with its event, or its upper half plays no part
pub data ByStart (v : ℕ) : List ℕ → Type 0 where
  with_it : (p : List ℕ) → ByStart v (v ∷ p)
  without_it : (p : List ℕ) → starts v p ≡ false → ByStart v p

pub by_start : (v : ℕ) (p : List ℕ) → ByStart v p
by_start v [] = without_it [] refl
by_start v (x ∷ p) = step (eqb v x) refl
  where
    step : (b : Bool) → eqb v x ≡ b → ByStart v (x ∷ p)
    step true e = subst (λ z. ByStart v (z ∷ p)) (eqb-true v x e) (with_it p)
    step false e = without_it (x ∷ p) e

-- Families that agree
module _ (b v : ℕ) (f0 f1 g0 g1 X Y : Family) (l : v < b) (af0 : IsAbove v f0) (ag0 : IsAbove v g0) where
  alike_upper : (p : List ℕ) → Alike b f1 g1 X Y p ≡ Alike b (node v f0 f1) (node v g0 g1) X Y (v ∷ p)
  alike_upper p = ap₂ (λ s t. ((s ≡ []) × (t ≡ [])) ⊎ ((s ≡ X) × (t ≡ Y))) (sym (section-with v b p f0 f1 l af0))
      (sym (section-with v b p g0 g1 l ag0))

  alike_lower : (p : List ℕ) → starts v p ≡ false → Alike b f0 g0 X Y p ≡ Alike b (node v f0 f1) (node v g0 g1) X Y p
  alike_lower p s = ap₂ (λ s t. ((s ≡ []) × (t ≡ [])) ⊎ ((s ≡ X) × (t ≡ Y))) (sym (section_lower v b p f0 f1 l s))
      (sym (section_lower v b p g0 g1 l s))

  pub agree_node : Agree b f0 g0 X Y → Agree b f1 g1 X Y → Agree b (node v f0 f1) (node v g0 g1) X Y
  agree_node lo hi = record { each = λ p. at p (by_start v p) }
    where
      at : (p : List ℕ) → ByStart v p → Alike b (node v f0 f1) (node v g0 g1) X Y p
      at _ (with_it p) = subst (λ T. T) (alike_upper p) (hi.each p)
      at _ (without_it p s) = subst (λ T. T) (alike_lower p s) (lo.each p)

  pub agree_upper : Agree b (node v f0 f1) (node v g0 g1) X Y → Agree b f1 g1 X Y
  agree_upper a = record { each = λ p. subst (λ T. T) (sym (alike_upper p)) (a.each (v ∷ p)) }

  pub agree_lower : Agree b (node v f0 f1) (node v g0 g1) X Y → Agree b f0 g0 X Y
  agree_lower a = record { each = λ p. step p (starts v p) refl }
    where
      step : (p : List ℕ) (c : Bool) → starts v p ≡ c → Alike b f0 g0 X Y p
      step p true s = inl (section_started v b p f0 af0 s, section_started v b p g0 ag0 s)
      step p false s = subst (λ T. T) (sym (alike_lower p s)) (a.each p)

  pub some_node : AgreeSome b f0 g0 X Y → Agree b f1 g1 X Y → AgreeSome b (node v f0 f1) (node v g0 g1) X Y
  some_node lo hi = record { each = λ p n. at p n (by_start v p) }
    where
      at : (p : List ℕ) → p ≢ [] → ByStart v p → Alike b (node v f0 f1) (node v g0 g1) X Y p
      at _ n (with_it p) = subst (λ T. T) (alike_upper p) (hi.each p)
      at _ n (without_it p s) = subst (λ T. T) (alike_lower p s) (lo.each p n)

  pub some_upper : AgreeSome b (node v f0 f1) (node v g0 g1) X Y → Agree b f1 g1 X Y
  some_upper a = record { each = λ p. subst (λ T. T) (sym (alike_upper p)) (a.each (v ∷ p) (λ e. cc)) }

  pub some_lower : AgreeSome b (node v f0 f1) (node v g0 g1) X Y → AgreeSome b f0 g0 X Y
  some_lower a = record { each = λ p n. step p n (starts v p) refl }
    where
      step : (p : List ℕ) → p ≢ [] → (c : Bool) → starts v p ≡ c → Alike b f0 g0 X Y p
      step p n true s = inl (section_started v b p f0 af0 s, section_started v b p g0 ag0 s)
      step p n false s = subst (λ T. T) (sym (alike_lower p s)) (a.each p n)

-- where the first has events at v and the second has none, they do not agree
module _ (b v : ℕ) (f0 f1 g X Y : Family) (l : v < b) (af0 : IsAbove v f0) (f1_some : f1 ≢ [])
    (g_none : (p : List ℕ) → section b (v ∷ p) g ≡ []) where
  pub differ_first : Y ≢ [] → AgreeSome b (node v f0 f1) g X Y → ⊥
  differ_first y a =
      let t = section_some b f1 f1_some in
      let e = section-with v b t.0 f0 f1 l af0 in
      ⊎_elim (λ no. t.1 (sym e ∙ no.0)) (λ yes. y (sym yes.1 ∙ g_none t.0)) (a.each (v ∷ t.0) (λ e. cc))

  pub differ_second : X ≢ [] → AgreeSome b g (node v f0 f1) X Y → ⊥
  differ_second x a =
      let t = section_some b f1 f1_some in
      let e = section-with v b t.0 f0 f1 l af0 in
      ⊎_elim (λ no. t.1 (sym e ∙ no.1)) (λ yes. x (sym yes.0 ∙ g_none t.0)) (a.each (v ∷ t.0) (λ e. cc))

pub all_agree : (b : ℕ) (f g X Y : Family) → Agree b f g X Y → AgreeSome b f g X Y
all_agree b f g X Y a = record { each = λ p n. a.each p }

pub none_from_end : (b v : ℕ) (g : Family) → AllByRecursion (AtLeast b) g → (p : List ℕ) → section b (v ∷ p) g ≡ []
none_from_end b v g a p = section-low_none b v p g a

pub none_from_above : (b v : ℕ) (g : Family) → IsAbove v g → (p : List ℕ) → section b (v ∷ p) g ≡ []
none_from_above b v g a p = section_started v b (v ∷ p) g a (eqb-refl v)

-- Two families without events below the bound
pub agree_ends : (b : ℕ) (f g X Y : Family) → AllByRecursion (AtLeast b) f → AllByRecursion (AtLeast b) g
    → ((f ≡ []) × (g ≡ [])) ⊎ ((f ≡ X) × (g ≡ Y)) → Agree b f g X Y
agree_ends b f g X Y af ag h = record { each = λ p. at p }
  where
    at : (p : List ℕ) → Alike b f g X Y p
    at [] = subst (λ s. ((s ≡ []) × (section b [] g ≡ [])) ⊎ ((s ≡ X) × (section b [] g ≡ Y)))
        (sym (section-low b f af)) (subst (λ t. ((f ≡ []) × (t ≡ [])) ⊎ ((f ≡ X) × (t ≡ Y))) (sym (section-low b g ag))
        h)
    at (x ∷ p) = inl (section-low_none b x p f af, section-low_none b x p g ag)

pub ends_agree : (b : ℕ) (f g X Y : Family) → AllByRecursion (AtLeast b) f → AllByRecursion (AtLeast b) g
    → Agree b f g X Y → ((f ≡ []) × (g ≡ [])) ⊎ ((f ≡ X) × (g ≡ Y))
ends_agree b f g X Y af ag a = subst (λ s. ((s ≡ []) × (g ≡ [])) ⊎ ((s ≡ X) × (g ≡ Y))) (section-low b f af)
    (subst (λ t. ((section b [] f ≡ []) × (t ≡ [])) ⊎ ((section b [] f ≡ X) × (t ≡ Y))) (section-low b g ag)
    (a.each []))

pub ends_some : (b : ℕ) (f g X Y : Family) → AllByRecursion (AtLeast b) f → AllByRecursion (AtLeast b) g
    → AgreeSome b f g X Y
ends_some b f g X Y af ag = record { each = λ p n. at p n }
  where
    at : (p : List ℕ) → p ≢ [] → Alike b f g X Y p
    at [] n = absurd (n refl)
    at (x ∷ p) n = inl (section-low_none b x p f af, section-low_none b x p g ag)
