-- One more name.
use Rattle.std.proofs.Common.{◌≡◌, ℕ, zero, suc, ◌+◌, ◌⊎◌, Bool, true, false, not, cond, nat_eq, List, [], ◌∷◌, ◌++◌, length, Option, Some, None, refl, sym, ◌∙◌, ap, subst, inl, inr, arith}
use Rattle.std.specs.HashSet as bag
use Rattle.std.proofs.Common.{◌↔◌, eq-eqb, ne_eqb}
use Rattle.std.proofs.lemmas.Bool.{cases_eq}
use Rattle.ar_base.specs.Lists.{Stands}
use Rattle.ar_base.specs.declared.places.Place.{Place}
use Rattle.ar_base.proofs.Standing.{stands_none, stands_within, stands_left, stands_next, stands_split}
use Rattle.ar_base.proofs.Comparing.{not_before}
use Rattle.class_table.specs.declared.repeats.Repeats.{Repeats}
use Rattle.class_table.specs.Earliest.{IsEarliest, nowhere, there, IsEarlierOf}
use Rattle.class_table.specs.Repeating.{IsRepeated, IsNamed, HasMet}
use Rattle.class_table.proofs.FirstPlaces.{earliest_both, earliest_same}

-- nothing is named in no names
pub named_none : (x : ℕ) → IsNamed [] x → ⊥
named_none x h = stands_none h.k h.one h.stands

pub repeated_none : (p : Place) → IsRepeated [] p → ⊥
repeated_none p h = stands_none h.j h.first h.is_first

pub met_none : (r : Repeats) → r.names.keys ≡ [] → r.found ≡ None → HasMet r []
met_none r e f = record {
  met = λ x. (λ h. absurd (none x h), λ h. absurd (named_none x h));
  found = subst (λ (o : Option Place). IsEarliest (IsRepeated []) o) (sym f) (nowhere repeated_none);
}
  where
    none : (x : ℕ) → bag.contains nat_eq r.names x ≡ true → ⊥
    none x h = let g = rw e at h in cc

module _ (names : List (ℕ × Place)) (x : ℕ) (at : Place) where
  last_one : (k : ℕ) (a : ℕ × Place) → Stands ((x, at) ∷ []) k a → (k ≡ 0) × (a ≡ (x, at))
  last_one zero a p = (refl, cc)
  last_one (suc zero) a p = cc
  last_one (suc (suc k)) a p = cc

  pub named_split : (q : ℕ) → IsNamed (names ++ (x, at) ∷ []) q → IsNamed names q ⊎ (x ≡ q)
  named_split q h = by (stands_split names ((x, at) ∷ []) h.k h.one h.stands)
    where
      by : Stands names h.k h.one ⊎ ((k : ℕ) × (h.k ≡ length names + k) × Stands ((x, at) ∷ []) k h.one)
          → IsNamed names q ⊎ (x ≡ q)
      by (inl a) = inl (record { k = h.k; one = h.one; stands = a; name = h.name })
      by (inr a) = let e = (last_one a.0 h.one a.2).1 in inr (sym (ap (λ (n : ℕ × Place). n.0) e) ∙ h.name)

  pub named_before : (q : ℕ) → IsNamed names q → IsNamed (names ++ (x, at) ∷ []) q
  named_before q h = record {
    k = h.k;
    one = h.one;
    stands = stands_left names ((x, at) ∷ []) h.k h.one h.stands;
    name = h.name;
  }

  pub named_last : IsNamed (names ++ (x, at) ∷ []) x
  named_last = record { k = length names; one = (x, at); stands = stands_next names (x, at) []; name = refl }

  pub repeated_split : (p : Place) → IsRepeated (names ++ (x, at) ∷ []) p
      → IsRepeated names p ⊎ (IsNamed names x × (p ≡ at))
  repeated_split p r = by (stands_split names ((x, at) ∷ []) r.k r.later r.is_later)
      (stands_split names ((x, at) ∷ []) r.j r.first r.is_first)
    where
      by : Stands names r.k r.later ⊎ ((k : ℕ) × (r.k ≡ length names + k) × Stands ((x, at) ∷ []) k r.later)
          → Stands names r.j r.first ⊎ ((k : ℕ) × (r.j ≡ length names + k) × Stands ((x, at) ∷ []) k r.first)
          → IsRepeated names p ⊎ (IsNamed names x × (p ≡ at))
      by (inl a) (inl b) = inl (record {
        j = r.j;
        k = r.k;
        first = r.first;
        later = r.later;
        before = r.before;
        is_first = b;
        is_later = a;
        one_name = r.one_name;
        place = r.place;
      })
      by (inl a) (inr b) = let h = stands_within names r.k r.later a in absurd (omega (arith, b.1, r.before))
      by (inr a) (inl b) =
          let e = (last_one a.0 r.later a.2).1 in
          inr (
            record { k = r.j; one = r.first; stands = b; name = r.one_name ∙ ap (λ (n : ℕ × Place). n.0) e },
            r.place
                ∙ ap (λ (n : ℕ × Place). n.1) e,
          )
      by (inr a) (inr b) = let e = (last_one a.0 r.later a.2).0 in let f = (last_one b.0 r.first b.2).0 in absurd (omega (arith, a.1, b.1, r.before))

  pub repeated_before : (p : Place) → IsRepeated names p → IsRepeated (names ++ (x, at) ∷ []) p
  repeated_before p r = record {
    j = r.j;
    k = r.k;
    first = r.first;
    later = r.later;
    before = r.before;
    is_first = stands_left names ((x, at) ∷ []) r.j r.first r.is_first;
    is_later = stands_left names ((x, at) ∷ []) r.k r.later r.is_later;
    one_name = r.one_name;
    place = r.place;
  }

  pub repeated_last : IsNamed names x → IsRepeated (names ++ (x, at) ∷ []) at
  repeated_last h = record {
    j = h.k;
    k = length names;
    first = h.one;
    later = (x, at);
    before = stands_within names h.k h.one h.stands;
    is_first = stands_left names ((x, at) ∷ []) h.k h.one h.stands;
    is_later = stands_next names (x, at) [];
    one_name = h.name;
    place = refl;
  }

  module _ (old new : Repeats) (h : HasMet old names)
      (adds : (q : ℕ) → bag.contains nat_eq new.names q
      ≡ cond (nat_eq x q) true (bag.contains nat_eq old.names q)) where
    -- the names that were met, with the new one
    met_more : (q : ℕ) → (bag.contains nat_eq new.names q ≡ true) ↔ IsNamed (names ++ (x, at) ∷ []) q
    met_more q = (λ e. to (cases_eq x q) e, λ n. from (named_split q n))
      where
        to : (x ≡ q) ⊎ (x ≡ q → ⊥) → bag.contains nat_eq new.names q ≡ true → IsNamed (names ++ (x, at) ∷ []) q
        to (inl i) e = subst (λ (z : ℕ). IsNamed (names ++ (x, at) ∷ []) z) i named_last
        to (inr n) e = named_before q ((h.met q).0
            (sym (adds q ∙ ap (λ (b : Bool). cond b true (bag.contains nat_eq old.names q)) (ne_eqb x q n)) ∙ e))

        from : IsNamed names q ⊎ (x ≡ q) → bag.contains nat_eq new.names q ≡ true
        from (inl n) = adds q ∙ both (nat_eq x q) (bag.contains nat_eq old.names q) ((h.met q).1 n)
          where
            both : (b d : Bool) → d ≡ true → cond b true d ≡ true
            both true d e = refl
            both false d e = e
        from (inr i) = adds q ∙ ap (λ (b : Bool). cond b true (bag.contains nat_eq old.names q)) (eq-eqb x q i)

    -- a new name is no repetition
    pub met_new : bag.contains nat_eq old.names x ≡ false → new.found ≡ old.found → HasMet new (names ++ (x, at) ∷ [])
    met_new e f = record {
      met = met_more;
      found = subst (λ (o : Option Place). IsEarliest (IsRepeated (names ++ (x, at) ∷ [])) o) (sym f)
          (earliest_same old.found repeated_before back h.found);
    }
      where
        back : (p : Place) → IsRepeated (names ++ (x, at) ∷ []) p → IsRepeated names p
        back p r = elim (repeated_split p r) [ inl a ↦ a | inr a ↦ let g = (h.met x).1 a.0 in cc ]

    -- a name that was met is one
    pub met_again : bag.contains nat_eq old.names x ≡ true → IsEarlierOf old.found (Some at) new.found
        → HasMet new (names ++ (x, at) ∷ [])
    met_again e f = record {
      met = met_more;
      found = earliest_same new.found to repeated_split (earliest_both old.found (Some at) new.found h.found last f);
    }
      where
        last : IsEarliest (λ (p : Place). IsNamed names x × (p ≡ at)) (Some at)
        last = there ((h.met x).0 e, refl) (λ q b d. not_before q at b d.1)

        to : (p : Place) → IsRepeated names p ⊎ (IsNamed names x × (p ≡ at)) → IsRepeated (names ++ (x, at) ∷ []) p
        to p (inl r) = repeated_before p r
        to p (inr r) = subst (λ (z : Place). IsRepeated (names ++ (x, at) ∷ []) z) (sym r.1) (repeated_last r.0)

-- what a test says that is not another
pub not_false : (b f : Bool) → f ≡ not b → f ≡ false → b ≡ true
not_false true f e i = refl
not_false false f e i = cc

pub not_true : (b f : Bool) → f ≡ not b → f ≡ true → b ≡ false
not_true true f e i = cc
not_true false f e i = refl
