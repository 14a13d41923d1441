-- No variable, event or observer of a tree stands twice in the list of its kind.
use Rattle.std.proofs.Common.{◌≡◌, ℕ, zero, suc, ◌+◌, ◌⊎◌, inl, inr, Bool, true, false, List, [], ◌∷◌, ◌++◌, map, length, refl, sym, ◌∙◌, ap, subst, arith}
use Rattle.std.specs.List.{flat_map, filter}
use Rattle.ar_base.specs.Lists.{Stands, IsOneOf, AreDifferent}
use Rattle.ar_base.proofs.Standing.{stands_none, stands_split, stands_map_back, one_here}
use Rattle.class_table.specs.Members.{NamedMember, MemberKind}
use Rattle.hierarchy.specs.Models.{RootedModel}
use Rattle.hierarchy.specs.ModelsInside.{KeepsTextRules}
use Rattle.hierarchy.specs.Units.{UnitPath, Thing, names_at}
use Rattle.hierarchy.specs.Walks.{thing}
use Rattle.hierarchy.specs.Listing.{AreUnits, things_in}
use Rattle.hierarchy.proofs.Apart.{members_apart, units_different}
use Rattle.hierarchy.proofs.Places.{AreApart}
use Rattle.hierarchy.proofs.Things.{filter_back, flat_origin, thing_unit}

module _ {A : Type 0} where
  different_none : AreDifferent {A = A} []
  different_none = record { one = λ m n a p q. absurd (stands_none m a p) }

  different_first : (x : A) (xs : List A) → (IsOneOf xs x → ⊥) → AreDifferent xs → AreDifferent (x ∷ xs)
  different_first x xs n o = record { one = go }
    where
      go : (i j : ℕ) (w : A) → Stands (x ∷ xs) i w → Stands (x ∷ xs) j w → i ≡ j
      go zero zero w p q = refl
      go zero (suc j) w p q = absurd (n (one_here xs j x (q ∙ sym p)))
      go (suc i) zero w p q = absurd (n (one_here xs i x (p ∙ sym q)))
      go (suc i) (suc j) w p q = ap suc (o.one i j w p q)

  different_rest : (x : A) (xs : List A) → AreDifferent (x ∷ xs) → AreDifferent xs
  different_rest x xs o = record { one = λ i j w p q. let e = o.one (suc i) (suc j) w p q in omega (arith, e) }

  not_again : (x : A) (xs : List A) → AreDifferent (x ∷ xs) → IsOneOf xs x → ⊥
  not_again x xs o k = let e = o.one 0 (suc k.place) x refl k.stands in omega (arith, e)

  different_joined : (xs ys : List A) → AreDifferent xs → AreDifferent ys → ((w : A) → IsOneOf xs w → IsOneOf ys w → ⊥)
      → AreDifferent (xs ++ ys)
  different_joined xs ys a b n = record
      { one = λ i j w p q. go i j w (stands_split xs ys i w p) (stands_split xs ys j w q) }
    where
      go : (i j : ℕ) (w : A) → Stands xs i w ⊎ ((k : ℕ) × (i ≡ length xs + k) × Stands ys k w)
          → Stands xs j w ⊎ ((k : ℕ) × (j ≡ length xs + k) × Stands ys k w) → i ≡ j
      go i j w (inl p) (inl q) = a.one i j w p q
      go i j w (inl p) (inr q) = absurd (n w (one_here xs i w p) (one_here ys q.0 w q.2))
      go i j w (inr p) (inl q) = absurd (n w (one_here xs j w q) (one_here ys p.0 w p.2))
      go i j w (inr p) (inr q) = let h = b.one p.0 q.0 w p.2 q.2 in let x = p.1 in let y = q.1 in omega (arith, h, x, y)

module _ (u : UnitPath) (test : MemberKind → Bool) where
  abbrev in_unit : NamedMember → Thing
  in_unit g = thing u g.name

  abbrev passing : NamedMember → Bool
  passing g = test g.kind

  apart_rest : (g : NamedMember) (gs : List NamedMember) → AreApart (g ∷ gs) → AreApart gs
  apart_rest g gs a = record { apart = λ i j x y p q e. let s = a.apart (suc i) (suc j) x y p q e in omega (arith, s) }

  not_named : (g : NamedMember) (gs : List NamedMember) → AreApart (g ∷ gs)
      → IsOneOf (map in_unit (filter passing gs)) (in_unit g) → ⊥
  not_named g gs a o =
      let h = stands_map_back in_unit (filter passing gs) o.place (in_unit g) o.stands in
      let s = (filter_back passing gs h.0 (one_here (filter passing gs) o.place h.0 h.1)).0 in
      let e : h.0.name ≡ g.name = ap (λ (t : Thing). t.name) h.2 in
      let z = a.apart 0 (suc s.place) g h.0 refl s.stands (sym e) in
      omega (arith, z)

  names_different : (gs : List NamedMember) → AreApart gs → AreDifferent (map in_unit (filter passing gs))
  names_different [] a = different_none
  names_different (g ∷ gs) a = go (names_different gs (apart_rest g gs a)) (passing g) refl
    where
      go : AreDifferent (map in_unit (filter passing gs)) → (b : Bool) → passing g ≡ b
          → AreDifferent (map in_unit (filter passing (g ∷ gs)))
      go rest true e = rw e (different_first (in_unit g) (map in_unit (filter passing gs)) (not_named g gs a) rest)
      go rest false e = rw e rest

module _ (m : RootedModel) (test : MemberKind → Bool) where
  listed : (units : List UnitPath) → ((u : UnitPath) → AreDifferent (things_in test m u)) → AreDifferent units
      → AreDifferent (flat_map (things_in test m) units)
  listed [] each a = different_none
  listed (u ∷ us) each a =
      different_joined (things_in test m u) (flat_map (things_in test m) us) (each u)
      (listed us each (different_rest u us a))
      (λ t p q.
      let o = flat_origin (things_in test m) us q.place t q.stands in
      let here : t.unit ≡ u = thing_unit m test u t p in
      let there : t.unit ≡ o.item = thing_unit m test o.item t o.is_one in
      not_again u us a (subst (λ (z : UnitPath). IsOneOf us z) (sym there ∙ here) (one_here us o.from o.item o.stands)))

  -- nothing of a kind is listed twice
  pub things_different : (units : List UnitPath) → KeepsTextRules m → AreUnits m units
      → AreDifferent (flat_map (things_in test m) units)
  things_different units k are = listed units (λ u. names_different u test (names_at m u) (members_apart k u))
      (units_different k are)
