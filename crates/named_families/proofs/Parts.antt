-- A family that is named part by part.
use Rattle.std.proofs.Common.{◌≡◌, ◌⊎◌, ⊎_elim, inl, inr, ℕ, true, ◌||◌, List, [], ◌∷◌, ◌++◌, refl, sym, ap, ◌∙◌, subst}
use Rattle.ar_base.specs.Lists.{Stands, IsOneOf}
use Rattle.ar_base.specs.NumbersInside.{EventId}
use Rattle.ar_base.proofs.Standing.{one_none, one_left, one_first, one_rest}
use Rattle.ar_base.proofs.Items.{one_last, last_cases}
use Rattle.zdd_nodes.specs.Families.{Family, has}
use Rattle.zdd_nodes.proofs.Laws.{same-refl}
use Rattle.zdd_nodes.specs.Nodes.{NodeId, Stored, family, IsNode, at}
use Rattle.diagram_steps.specs.Putting.{Extends, put_in, HasWith}
use Rattle.diagram_steps.proofs.Growing as g
use Rattle.diagram_steps.proofs.PutIn.{has_node, has_lower, has_upper}
use Rattle.named_families.specs.Names.{IsNamedBy, AreNamed, HaveNames}
use Rattle.named_families.specs.Named.{AreNumbers, HasAllSets}
use Rattle.named_families.proofs.Names.{named_more}
use Rattle.named_families.proofs.Named.{number_one}

-- each set of the family is one of the rest or is named in a part; each of the rest is one of the family, and each of a
-- part names one
pub record AreParts (names : List EventId) (f rest : Family) (s : Stored) (parts : List NodeId) : Type 0 where
  pub within : (t : List ℕ) → has rest t ≡ true → has f t ≡ true
  pub sound : (n : NodeId) (x : List ℕ) → IsOneOf parts n → has (family s n.n) x ≡ true
      → (t : List ℕ) × (has f t ≡ true) × IsNamedBy names t x
  pub whole : (t : List ℕ) → has f t ≡ true → (has rest t ≡ true) ⊎ ((n : NodeId) × (x : List ℕ)
      × IsOneOf parts n × (has (family s n.n) x ≡ true) × IsNamedBy names t x)

pub parts_none : (names : List EventId) (f : Family) (s : Stored) → AreParts names f f s []
parts_none names f s = record {
  within = λ t h. h;
  sound = λ n x o h. absurd (one_none n o);
  whole = λ t h. inl h;
}

pub parts_grow : (names : List EventId) (f rest : Family) (s t : Stored) (parts : List NodeId) → Extends s t
    → AreNumbers s parts → AreParts names f rest s parts → AreParts names f rest t parts
parts_grow names f rest s t parts e a p = record {
  within = p.within;
  sound = λ n x o h. p.sound n x o (ap (λ z. has z x) (sym (same n o)) ∙ h);
  whole = λ u h. ⊎_elim
      (λ l. inl l)
      (λ w. inr (w.0, w.1, w.2, ap (λ z. has z w.1) (same w.0 w.2) ∙ w.3, w.4))
      (p.whole u h);
}
  where
    same : (n : NodeId) → IsOneOf parts n → family t n.n ≡ family s n.n
    same n o = g.kept s t n.n e (number_one s parts n a o)

module _ (names : List EventId) (f : Family) (fs : List Family) (k event lo hi : ℕ) (i : IsNode fs k event lo hi) where
  -- the sets of the halves
  lower_within : (t : List ℕ) → has (at fs lo) t ≡ true → has (at fs k) t ≡ true
  lower_within t h = ap (λ z. has z t) i.is ∙ has_lower event (at fs lo) (at fs hi) t h

  upper_within : (t : List ℕ) → has (at fs hi) t ≡ true → has (at fs k) (event ∷ t) ≡ true
  upper_within t h = ap (λ z. has z (event ∷ t)) i.is ∙ has_upper event (at fs lo) (at fs hi) t i.lo_above h

  -- the events of the upper half, and the event of the node
  pub upper_names : ((t : List ℕ) → has (at fs k) t ≡ true → has f t ≡ true) → HaveNames names f
      → HaveNames names (at fs hi)
  upper_names within n = record {
    each = λ t h j o. n.each (event ∷ t) (within (event ∷ t) (upper_within t h)) j (one_rest event t j o);
  }

  pub event_name : ((t : List ℕ) → has (at fs k) t ≡ true → has f t ≡ true) → HaveNames names f
      → (n : EventId) × Stands names event n
  event_name within n = by (at fs hi) refl
    where
      by : (u : Family) → at fs hi ≡ u → (n : EventId) × Stands names event n
      by [] e = absurd (i.hi_some e)
      by (t ∷ u) e =
          let here : has (at fs hi) t ≡ true = ap (λ z. has z t) e ∙ ap (λ b. b || has u t) (same-refl t) in
          n.each (event ∷ t) (within (event ∷ t) (upper_within t here)) event (one_first event t)

  module _ (s : Stored) (parts : List NodeId) (p : AreParts names f (at fs k) s parts) (name : EventId)
      (st : Stands names event name) (u : Family) (w : AreNamed names (at fs hi) u) (part : NodeId)
      (v : HasWith name.n u (family s part.n)) where
    -- the sets with the event are named in one part more
    more_sound : (x : List ℕ) → has (family s part.n) x ≡ true
        → (t : List ℕ) × (has f t ≡ true) × IsNamedBy names t x
    more_sound x h =
        let y = v.sound x h in
        let z = w.sound y.0 y.1 in (
          event ∷ z.0,
          p.within (event ∷ z.0) (upper_within z.0 z.1),
          subst (IsNamedBy names (event ∷ z.0)) (sym y.2) (named_more names event name z.0 y.0 st z.2),
        )

    more_whole : (t : List ℕ) → has (at fs k) t ≡ true → (has (at fs lo) t ≡ true) ⊎ ((n : NodeId) × (x : List ℕ)
        × IsOneOf (parts ++ part ∷ []) n × (has (family s n.n) x ≡ true) × IsNamedBy names t x)
    more_whole t h = ⊎_elim
        (λ y. let z = w.whole y.0 y.2 in inr (
          part,
          put_in name.n z.0,
          one_last parts part,
          v.whole z.0 z.1,
          subst (λ q. IsNamedBy names q (put_in name.n z.0)) (sym y.1) (named_more names event name y.0 z.0 st z.2),
        ))
        (λ l. inl l)
        (has_node event (at fs lo) (at fs hi) t (ap (λ z. has z t) (sym i.is) ∙ h))

    pub parts_more : AreParts names f (at fs lo) s (parts ++ part ∷ [])
    parts_more = record {
      within = λ t h. p.within t (lower_within t h);
      sound = λ n x o h. ⊎_elim
          (λ l. p.sound n x l h)
          (λ q. more_sound x (subst (λ (z : NodeId). has (family s z.n) x ≡ true) (sym q) h))
          (last_cases parts part n o);
      whole = λ t h. ⊎_elim
          (λ l. more_whole t l)
          (λ q. inr (q.0, q.1, one_left parts (part ∷ []) q.0 q.2, q.3, q.4))
          (p.whole t h);
    }

-- where the rest is named in the last part, the union of all parts names the family
pub parts_done : (names : List EventId) (f rest : Family) (s : Stored) (parts : List NodeId) (n : NodeId) (h : Family)
    → AreParts names f rest s parts → AreNamed names rest (family s n.n) → HasAllSets s (parts ++ n ∷ []) h
    → AreNamed names f h
parts_done names f rest s parts n h p w a = record {
  sound = λ x k. let y = a.sound x k in ⊎_elim
      (λ l. p.sound y.0 x l y.2)
      (λ q. let z = w.sound x (subst (λ (m : NodeId). has (family s m.n) x ≡ true) (sym q) y.2) in
      (z.0, p.within z.0 z.1, z.2))
      (last_cases parts n y.0 y.1);
  whole = λ t k. ⊎_elim
      (λ l. let z = w.whole t l in (z.0, a.whole n z.0 (one_last parts n) z.1, z.2))
      (λ q. (q.1, a.whole q.0 q.1 (one_left parts (n ∷ []) q.0 q.2) q.3, q.4))
      (p.whole t k);
}
