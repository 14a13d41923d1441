-- How entries are gathered.
use Rattle.std.proofs.Common.{◌≡◌, ◌≢◌, ◌⊎◌, inl, inr, ℕ, zero, suc, ◌<◌, Bool, true, List, [], ◌∷◌, ◌++◌, slice_set, refl, sym, ap, ◌∙◌, subst, arith, append_assoc}
use Rattle.ar_base.specs.Lists.{Stands, IsOneOf}
use Rattle.ar_base.proofs.Standing.{one_left, one_right, one_split, only_item, one_none}
use Rattle.zdd_nodes.specs.Families.{Family}
use Rattle.zdd_nodes.specs.Sections.{section}
use Rattle.zdd_nodes.proofs.Sections.{section-with, section-above, section-low}
use Rattle.zdd_nodes.specs.Nodes.{Stored, family, IsFamilyNumber}
use Rattle.gate_modules.specs.Ends.{IsSectionAt}
use Rattle.gate_modules.specs.Ends.IsSectionAt.{empty, taken}
use Rattle.zdd_nodes.specs.Bounds.{EndsBelow, HasBelow}
use Rattle.gate_modules.specs.Entries.{IsCovered, AreSeen, AddsSections, AreSectionsAt, IsExit, IsEntryExit}
use Rattle.gate_modules.proofs.Sections.{section_lower, section_end, starts_above, by_start, ByStart}
use Rattle.gate_modules.proofs.Sections.ByStart.{with_it, without_it}
use Rattle.gate_modules.specs.Entries.IsNumberReached.{here, up}
use Rattle.gate_modules.proofs.Tables.{stands_set}

module _ (s : Stored) (from : ℕ) where
  pub covered_more : (n : ℕ) (f : Family) (old new : List ℕ) → IsCovered s from old f → AddsSections s from n old new
      → IsCovered s from new f
  covered_more n f old new c a p = elim (c p) [
    | inl none ↦ inl none
    | inr some ↦ inr
        (some.0, subst (λ z. IsOneOf z some.0) (sym a.is) (one_left old a.added some.0 some.1), some.2)
  ]

  pub covered_node : (n v lo hi : ℕ) (es : List ℕ) → HasBelow s from n v lo hi → IsCovered s from es (family s hi)
      → IsCovered s from es (family s lo) → IsCovered s from es (family s n)
  covered_node n v lo hi es h upper lower p = at p (by_start v p)
    where
      at : (p : List ℕ) → ByStart v p → (section from p (family s n) ≡ [])
          ⊎ ((e : ℕ) × IsOneOf es e × (section from p (family s n) ≡ family s e))
      at _ (with_it p) =
          let is = ap (section from (v ∷ p)) h.node.is
          ∙ section-with v from p (family s lo) (family s hi) h.below h.node.lo_above in
          elim (upper p) [ inl none ↦ inl (is ∙ none) | inr some ↦ inr (some.0, some.1, is ∙ some.2) ]
      at _ (without_it p e) =
          let is = ap (section from p) h.node.is ∙ section_lower v from p (family s lo) (family s hi) h.below e in
          elim (lower p) [ inl none ↦ inl (is ∙ none) | inr some ↦ inr (some.0, some.1, is ∙ some.2) ]

  pub seen_set : (n : ℕ) (seen : List Bool) (es : List ℕ) → AreSeen s from seen es → IsCovered s from es (family s n)
      → AreSeen s from (slice_set seen n true) es
  seen_set n seen es a c = record { each = λ k i. at k (stands_set seen n k true true i) }
    where
      at : (k : ℕ) → ((k ≡ n) × (true ≡ true)) ⊎ Stands seen k true → IsCovered s from es (family s k)
      at k (inl e) = subst (λ z. IsCovered s from es (family s z)) (sym e.0) c
      at k (inr i) = a.each k i

  pub seen_more : (n : ℕ) (seen : List Bool) (old new : List ℕ) → AreSeen s from seen old → AddsSections s from n old new
      → AreSeen s from seen new
  seen_more n seen old new a d = record { each = λ k i. covered_more n (family s k) old new (a.each k i) d }

  section_down : (n v lo hi : ℕ) (h : Family) → HasBelow s from n v lo hi → IsSectionAt from (family s lo) h
      → IsSectionAt from (family s n) h
  section_down n v lo hi h b (empty e) = empty e
  section_down n v lo hi h b (taken p e) = elim (section-above v from p (family s lo) b.node.lo_above) [
    | inl none ↦ empty (e ∙ none)
    | inr above ↦ taken p (e ∙ sym (ap (section from p) b.node.is
        ∙ section_lower v from p (family s lo) (family s hi) b.below (starts_above v p above)))
  ]

  section_up : (n v lo hi : ℕ) (h : Family) → HasBelow s from n v lo hi → IsSectionAt from (family s hi) h
      → IsSectionAt from (family s n) h
  section_up n v lo hi h b (empty e) = empty e
  section_up n v lo hi h b (taken p e) =
      taken (v ∷ p) (e ∙ sym (ap (section from (v ∷ p)) b.node.is
      ∙ section-with v from p (family s lo) (family s hi) b.below b.node.lo_above))

  pub adds_node : (n v lo hi : ℕ) (old mid new : List ℕ) → HasBelow s from n v lo hi → AddsSections s from hi old mid
      → AddsSections s from lo mid new → AddsSections s from n old new
  adds_node n v lo hi old mid new b x y = record {
    added = x.added ++ y.added;
    is = y.is ∙ ap (λ z. z ++ y.added) x.is ∙ append_assoc old x.added y.added;
    inside = λ e i. elim (one_split x.added y.added e i) [ inl l ↦ x.inside e l | inr l ↦ y.inside e l ];
    sections = λ e i. elim (one_split x.added y.added e i) [
      | inl l ↦ section_up n v lo hi (family s e) b (x.sections e l)
      | inr l ↦ section_down n v lo hi (family s e) b (y.sections e l)
    ];
  }

  pub adds_none : (n : ℕ) (old : List ℕ) → AddsSections s from n old old
  adds_none n old = record {
    added = [];
    is = sym (append_nil old);
    inside = λ e i. absurd (one_none e i);
    sections = λ e i. absurd (one_none e i);
  }
    where
      append_nil : (xs : List ℕ) → xs ++ [] ≡ xs
      append_nil [] = refl
      append_nil (x ∷ xs) = ap (λ z. x ∷ z) (append_nil xs)

  pub covered_leaf : (n : ℕ) (old : List ℕ) → EndsBelow s from n → IsCovered s from (old ++ n ∷ []) (family s n)
  covered_leaf n old h p = elim (section_end from p (family s n) h.at_least) [
    | inl whole ↦ inr (n, one_right old (n ∷ []) n (record { place = zero; stands = refl }), whole.1)
    | inr none ↦ inl none.1
  ]

  pub adds_leaf : (n : ℕ) (old : List ℕ) → IsFamilyNumber s n → EndsBelow s from n → AddsSections s from n old (old ++ n ∷ [])
  adds_leaf n old in_store h = record {
    added = n ∷ [];
    is = refl;
    inside = λ e i. subst (IsFamilyNumber s) (only_item n e i) in_store;
    sections = λ e i. subst (λ z. IsSectionAt from (family s n) (family s z)) (only_item n e i)
        (taken [] (sym (section-low from (family s n) h.at_least)));
  }

  pub entries_from : (n : ℕ) (es : List ℕ) → IsCovered s from es (family s n) → AddsSections s from n [] es
      → AreSectionsAt s from n es
  entries_from n es c a = record {
    covered = c;
    inside = λ e i. a.inside e (subst (λ z. IsOneOf z e) a.is i);
    sections = λ e i. a.sections e (subst (λ z. IsOneOf z e) a.is i);
  }

-- exits
pub exit_up : (s : Stored) (to n v lo hi x : ℕ) → HasBelow s to n v lo hi → IsExit s to hi x → IsExit s to n x
exit_up s to n v lo hi x h e = record { at_most = (let l = h.node.hi_before in omega (arith, l, e.at_most)); inside = e.inside; some = e.some; taken = v ∷ e.taken; is = ap (section to (v ∷ e.taken)) h.node.is ∙ section-with v to e.taken (family s lo) (family s hi) h.below h.node.lo_above ∙ e.is; reached = up h e.reached; ends = e.ends }

pub exit_end : (s : Stored) (to n : ℕ) → IsFamilyNumber s n → 0 < n → EndsBelow s to n → IsExit s to n n
exit_end s to n inside some h = record {
  at_most = omega arith;
  inside = inside;
  some = some;
  taken = [];
  is = section-low to (family s n) h.at_least;
  reached = here n;
  ends = h;
}

pub entry_exit_up : (s : Stored) (to n v lo hi x : ℕ) → HasBelow s to n v lo hi → IsExit s to hi x
    → IsEntryExit s to n x
unfolding exit_up
entry_exit_up s to n v lo hi x h e = record { exit = exit_up s to n v lo hi x h e; taken_some = some v e.taken }
  where
    some : (v : ℕ) (t : List ℕ) → v ∷ t ≢ []
    some v t z = cc

pub hi_over_zero : (s : Stored) (to n v lo hi : ℕ) → HasBelow s to n v lo hi → 0 < hi
hi_over_zero s to n v lo zero h = absurd (h.node.hi_some refl)
hi_over_zero s to n v lo (suc hi) h = omega arith
