-- The events that paths name: one at most, and each with one number.
use Rattle.std.proofs.Common.{◌≡◌, ◌+◌, ℕ, zero, suc, Bool, true, false, if◌then◌else◌, List, [], ◌∷◌, length, Some, refl, sym, ◌∙◌, ap, subst, inl, inr, ◌⊎◌, arith}
use Rattle.std.specs.List.{flat_map, filter}
use Rattle.ar_base.specs.Lists.{Stands, IsOneOf, Along, AreDifferent}
use Rattle.ar_base.specs.Lists as l
use Rattle.ar_base.proofs.Standing.{stands_none, stands_split, stands_map_back, one_here}
use Rattle.ar_base.proofs.Items.{last_one}
use Rattle.ar_syntax.specs.declared.paths.PathStart.TheVariants.{Here}
use Rattle.class_table.specs.Members.{NamedMember, MemberKind}
use Rattle.hierarchy.specs.Models.{RootedModel}
use Rattle.hierarchy.specs.ModelsInside.{KeepsTextRules}
use Rattle.hierarchy.specs.Units.{UnitPath, Thing, names_at}
use Rattle.hierarchy.specs.Walks.{Reaches, NamesLead, IsThingAt, thing, is_event}
use Rattle.hierarchy.specs.Listing.{AreUnits, things_in, events}
use Rattle.hierarchy.proofs.Apart.{units_different, members_apart}
use Rattle.hierarchy.proofs.Outcomes.{walks_same, unit_of_reaches}
use Rattle.hierarchy.proofs.Places.{AreApart}
use Rattle.hierarchy.proofs.Things.{filter_back, thing_unit}

-- Lists in which nothing stands twice

module _ {A B : Type 0} (f : A → List B) (each : (u : A) → AreDifferent (f u))
    (alike : (u v : A) (b : B) → IsOneOf (f u) b → IsOneOf (f v) b → u ≡ v) where
  from_later : (us : List A) (i : ℕ) (b : B) → Stands (flat_map f us) i b → (u : A) × IsOneOf us u × IsOneOf (f u) b
  from_later [] i b h = absurd (stands_none i b h)
  from_later (u ∷ us) i b h = elim (stands_split (f u) (flat_map f us) i b h) [
    | inl q ↦ (u, record { place = 0; stands = refl }, one_here (f u) i b q)
    | inr q ↦ (let r = from_later us q.0 b q.2 in (r.0, record { place = suc r.1.place; stands = r.1.stands }, r.2))
  ]

  rest_different : (u : A) (us : List A) → AreDifferent (u ∷ us) → AreDifferent us
  rest_different u us d = record { one = λ m n a h k. let e = d.one (suc m) (suc n) a h k in omega (arith, e) }

  not_first : (u : A) (us : List A) → AreDifferent (u ∷ us) → (b : B) → IsOneOf (f u) b → (j : ℕ)
      → Stands (flat_map f us) j b → ⊥
  not_first u us d b o j h =
      let r = from_later us j b h in
      let e : u ≡ r.0 = alike u r.0 b o r.2 in
      let z = d.one 0 (suc r.1.place) u refl (subst (λ (v : A). Stands us r.1.place v) (sym e) r.1.stands) in
      absurd (omega (arith, z))

  pub flat_different : (us : List A) → AreDifferent us → AreDifferent (flat_map f us)
  flat_different [] d = record { one = λ m n b h k. absurd (stands_none m b h) }
  flat_different (u ∷ us) d = record {
    one = λ m n b h k. go m n b (flat_different us (rest_different u us d))
        (stands_split (f u) (flat_map f us) m b h) (stands_split (f u) (flat_map f us) n b k);
  }
    where
      go : (m n : ℕ) (b : B) → AreDifferent (flat_map f us)
          → Stands (f u) m b ⊎ ((k : ℕ) × (m ≡ length (f u) + k) × Stands (flat_map f us) k b)
          → Stands (f u) n b ⊎ ((k : ℕ) × (n ≡ length (f u) + k) × Stands (flat_map f us) k b) → m ≡ n
      go m n b rest (inl p) (inl q) = (each u).one m n b p q
      go m n b rest (inl p) (inr q) = absurd (not_first u us d b (one_here (f u) m b p) q.0 q.2)
      go m n b rest (inr p) (inl q) = absurd (not_first u us d b (one_here (f u) n b q) p.0 p.2)
      go m n b rest (inr p) (inr q) = let e = rest.one p.0 q.0 b p.2 q.2 in omega (arith, e, p.1, q.1)

-- members of different names stay so
module _ (test : NamedMember → Bool) where
  apart_rest : (x : NamedMember) (xs : List NamedMember) → AreApart (x ∷ xs) → AreApart xs
  apart_rest x xs a = record { apart = λ i j g h p q e. let z = a.apart (suc i) (suc j) g h p q e in omega (arith, z) }

  filter_apart : (xs : List NamedMember) → AreApart xs → AreApart (filter test xs)
  filter_apart [] a = a
  filter_apart (x ∷ xs) a = go (test x) (filter_apart xs (apart_rest x xs a))
    where
      later : (h : NamedMember) (j : ℕ) → Stands (filter test xs) j h → x.name ≡ h.name → ⊥
      later h j q e =
          let o = filter_back test xs h (one_here (filter test xs) j h q) in
          let z = a.apart 0 (suc o.0.place) x h refl o.0.stands e in
          absurd (omega (arith, z))

      both : AreApart (filter test xs) → (i j : ℕ) (g h : NamedMember) → Stands (x ∷ filter test xs) i g
          → Stands (x ∷ filter test xs) j h → g.name ≡ h.name → i ≡ j
      both r zero zero g h p q e = refl
      both r zero (suc j) g h p q e = let same : x ≡ g = cc in absurd (later h j q (ap (λ (z : NamedMember). z.name) same ∙ e))
      both r (suc i) zero g h p q e = let same : x ≡ h = cc in absurd (later g i p (ap (λ (z : NamedMember). z.name) same ∙ sym e))
      both r (suc i) (suc j) g h p q e = let z = r.apart i j g h p q e in omega (arith, z)

      go : (b : Bool) → AreApart (filter test xs) → AreApart (if b then x ∷ filter test xs else filter test xs)
      go true r = record { apart = both r }
      go false r = r

module _ {m : RootedModel} (kept : KeepsTextRules m) where
  in_unit : (test : MemberKind → Bool) (u : UnitPath) → AreDifferent (things_in test m u)
  in_unit test u = record {
    one = λ i j t p q.
        let names = filter (λ (g : NamedMember). test g.kind) (names_at m u) in
        let a = stands_map_back (λ (g : NamedMember). thing u g.name) names i t p in
        let b = stands_map_back (λ (g : NamedMember). thing u g.name) names j t q in
        (filter_apart (λ (g : NamedMember). test g.kind) (names_at m u) (members_apart kept u)).apart i j a.0 b.0 a.1
        b.1
        (ap (λ (z : Thing). z.name) (a.2 ∙ sym b.2));
  }

  -- no event is listed twice
  pub events_different : {units : List UnitPath} → AreUnits m units → AreDifferent (events m units)
  events_different {units = units} d =
      flat_different (things_in is_event m) (in_unit is_event)
      (λ u v t o q. sym (thing_unit m is_event u t o) ∙ thing_unit m is_event v t q) units (units_different kept d)

-- Names and what they name

-- names name one thing
pub one_thing : {m : RootedModel} (test : MemberKind → Bool) (names : List ℕ) (t u : Thing)
    → IsThingAt m test [] Here names t → IsThingAt m test [] Here names u → t ≡ u
one_thing test names t u p q =
    let e = last_one p.leads.front q.leads.front t.name u.name (sym p.leads.split ∙ q.leads.split) in
    let w = unit_of_reaches (walks_same
    (subst (λ (ns : List ℕ). NamesLead _ [] (Some []) ns (Reaches t.unit)) e.0 p.leads.reaches)
    q.leads.reaches) in
    both t.unit u.unit t.name u.name w e.1
  where
    both : (v w : UnitPath) (x y : ℕ) → v ≡ w → x ≡ y
        → ◌≡◌ {A = Thing} (record { unit = v; name = x }) (record { unit = w; name = y })
    both v w x y e i = cc

-- a text spells one list of names
pub one_spelling : (table : List (List ℕ)) → AreDifferent table → {ps : List (List ℕ)} {xs ys : List ℕ}
    → Along (λ piece x. Stands table x piece) ps xs → Along (λ piece x. Stands table x piece) ps ys → xs ≡ ys
one_spelling table d l.none l.none = refl
one_spelling table d (l.one_and {a = piece} {b = x} p ps) (l.one_and {b = y} q qs) =
    let e : x ≡ y = d.one x y piece p q in
    let i = one_spelling table d ps qs in
    cc
