-- Things by unit and member: what is listed, and where.
use Rattle.std.proofs.Common.{◌≡◌, ℕ, suc, ◌+◌, ◌≤◌, ◌⊎◌, inl, inr, Bool, true, false, if◌then◌else◌, List, [], ◌∷◌, length, Option, Some, None, option_map, refl, sym, ◌∙◌, ap, subst, arith}
use Rattle.std.specs.List.{flat_map, filter}
use Rattle.ar_base.specs.Lists.{Stands, IsOneOf}
use Rattle.ar_base.proofs.Standing.{stands_split, stands_none, stands_within, stands_map, stands_map_back, one_here, one_left, one_right, one_cases, one_first, one_rest, one_none}
use Rattle.class_table.specs.Members.{NamedMember, MemberKind}
use Rattle.hierarchy.specs.Models.{RootedModel}
use Rattle.hierarchy.specs.ModelsInside.{KeepsTextRules}
use Rattle.hierarchy.specs.Units.{UnitPath, Thing, names_at, name_at}
use Rattle.hierarchy.specs.Walks.{thing, PassesTest}
use Rattle.hierarchy.specs.Listing.{things_in}
use Rattle.hierarchy.proofs.Apart.{members_apart, named_here, named_back}

module _ {A B : Type 0} (f : A → List B) where
  -- where an item of a flat list comes from
  pub record ComesFrom (us : List A) (b : B) : Type 0 where
    pub from : ℕ
    pub item : A
    pub stands : Stands us from item
    pub is_one : IsOneOf (f item) b

  -- what stands in a flat list comes from an item
  pub flat_origin : (us : List A) (i : ℕ) (b : B) → Stands (flat_map f us) i b → ComesFrom us b
  flat_origin [] i b p = absurd (stands_none i b p)
  flat_origin (u ∷ us) i b p = elim (stands_split (f u) (flat_map f us) i b p) [
    | inl q ↦ record { from = 0; item = u; stands = refl; is_one = one_here (f u) i b q }
    | inr q ↦ (let o = flat_origin us q.0 b q.2 in record { from = suc o.from; item = o.item; stands = o.stands; is_one = o.is_one })
  ]

  -- two items of a flat list come from items in that order
  pub record ComeInOrder (us : List A) (b c : B) : Type 0 where
    pub first : ComesFrom us b
    pub second : ComesFrom us c
    pub order : first.from ≤ second.from

  pub flat_rises : (us : List A) (i j : ℕ) (b c : B) → i ≤ j → Stands (flat_map f us) i b → Stands (flat_map f us) j c
      → ComeInOrder us b c
  flat_rises [] i j b c l p q = absurd (stands_none i b p)
  flat_rises (u ∷ us) i j b c l p q =
      go (λ x y h s t. flat_rises us x y b c h s t) (stands_split (f u) (flat_map f us) i b p)
      (stands_split (f u) (flat_map f us) j c q)
    where
      go : ((x y : ℕ) → x ≤ y → Stands (flat_map f us) x b → Stands (flat_map f us) y c → ComeInOrder us b c)
          → Stands (f u) i b ⊎ ((k : ℕ) × (i ≡ length (f u) + k) × Stands (flat_map f us) k b)
          → Stands (f u) j c ⊎ ((k : ℕ) × (j ≡ length (f u) + k) × Stands (flat_map f us) k c)
          → ComeInOrder (u ∷ us) b c
      go more (inl s) (inl t) = record {
        first = record { from = 0; item = u; stands = refl; is_one = one_here (f u) i b s };
        second = record { from = 0; item = u; stands = refl; is_one = one_here (f u) j c t };
        order = omega arith;
      }
      go more (inl s) (inr t) = let o = flat_origin us t.0 c t.2 in record {
        first = record { from = 0; item = u; stands = refl; is_one = one_here (f u) i b s };
        second = record { from = suc o.from; item = o.item; stands = o.stands; is_one = o.is_one };
        order = omega arith;
      }
      go more (inr s) (inl t) = absurd (let w = stands_within (f u) j c t in let e = s.1 in omega (arith, w, e, l))
      go more (inr s) (inr t) =
          let o = more s.0 t.0 (let d = s.1 in let e = t.1 in omega (arith, d, e, l)) s.2 t.2 in record {
            first = record {
              from = suc o.first.from;
              item = o.first.item;
              stands = o.first.stands;
              is_one = o.first.is_one;
            };
            second = record {
              from = suc o.second.from;
              item = o.second.item;
              stands = o.second.stands;
              is_one = o.second.is_one;
            };
            order = (let w = o.order in omega (arith, w));
          }

  -- what an item gives is in the flat list
  pub flat_one : (us : List A) (u : A) (b : B) → IsOneOf us u → IsOneOf (f u) b → IsOneOf (flat_map f us) b
  flat_one [] u b p q = absurd (one_none u p)
  flat_one (v ∷ us) u b p q = elim (one_cases v us u p) [
    | inl e ↦ one_left (f v) (flat_map f us) b (subst (λ (w : A). IsOneOf (f w) b) (sym e) q)
    | inr r ↦ one_right (f v) (flat_map f us) b (flat_one us u b r q)
  ]

module _ {A : Type 0} (p : A → Bool) where
  -- what passes the test stays
  pub filter_one : (xs : List A) (a : A) → IsOneOf xs a → p a ≡ true → IsOneOf (filter p xs) a
  filter_one [] a o h = absurd (one_none a o)
  filter_one (x ∷ xs) a o h = elim (one_cases x xs a o) [
    | inl e ↦ (let w : p x ≡ true = ap p e ∙ h in rw w (subst (λ (z : A). IsOneOf (z ∷ filter p xs) a) (sym e) (one_first a (filter p xs))))
    | inr r ↦ further (p x) (filter_one xs a r h)
  ]
    where
      further : (b : Bool) → IsOneOf (filter p xs) a → IsOneOf (if b then x ∷ filter p xs else filter p xs) a
      further true o = one_rest x (filter p xs) a o
      further false o = o

  -- what stays was there and passes
  pub filter_back : (xs : List A) (a : A) → IsOneOf (filter p xs) a → IsOneOf xs a × (p a ≡ true)
  filter_back [] a o = absurd (one_none a o)
  filter_back (x ∷ xs) a o = go (λ r. filter_back xs a r) (p x) refl o
    where
      go : (IsOneOf (filter p xs) a → IsOneOf xs a × (p a ≡ true)) → (b : Bool) → p x ≡ b
          → IsOneOf (if b then x ∷ filter p xs else filter p xs) a → IsOneOf (x ∷ xs) a × (p a ≡ true)
      go back true e o = elim (one_cases x (filter p xs) a o) [
        | inl q ↦ (subst (λ (z : A). IsOneOf (x ∷ xs) z) q (one_first x xs), ap p (sym q) ∙ e)
        | inr r ↦ (let s = back r in (one_rest x xs a s.0, s.1))
      ]
      go back false e o = let s = back o in (one_rest x xs a s.0, s.1)

module _ (m : RootedModel) (test : MemberKind → Bool) where
  -- a thing that is listed in a unit stands in it
  pub thing_unit : (u : UnitPath) (t : Thing) → IsOneOf (things_in test m u) t → t.unit ≡ u
  thing_unit u t o =
      let s = stands_map_back (λ (g : NamedMember). thing u g.name)
      (filter (λ (g : NamedMember). test g.kind) (names_at m u)) o.place t o.stands in
      ap (λ (z : Thing). z.unit) (sym s.2)

  -- a thing that is listed in a unit is one for which the test is true
  pub listed_has : KeepsTextRules m → (u : UnitPath) (t : Thing) → IsOneOf (things_in test m u) t → PassesTest m test t
  listed_has k u t o =
      let s = stands_map_back (λ (g : NamedMember). thing u g.name)
      (filter (λ (g : NamedMember). test g.kind) (names_at m u)) o.place t o.stands in
      let g = s.0 in
      let b = filter_back (λ (g : NamedMember). test g.kind) (names_at m u) g
      (record { place = o.place; stands = s.1 }) in
      let n : name_at m u g.name ≡ Some g = named_here (names_at m u) b.0.place g (members_apart k u) b.0.stands in
      subst (λ (z : Thing). PassesTest m test z) s.2
      (record { kind = g.kind; is = ap (option_map (λ (h : NamedMember). h.kind)) n; passes = b.1 })

  -- a thing for which the test is true is listed in its unit
  pub has_listed : (t : Thing) → PassesTest m test t → IsOneOf (things_in test m t.unit) t
  has_listed t h = go (name_at m t.unit t.name) refl h.is
    where
      go : (o : Option NamedMember) → name_at m t.unit t.name ≡ o
          → option_map (λ (g : NamedMember). g.kind) o ≡ Some h.kind → IsOneOf (things_in test m t.unit) t
      go None e q = cc
      go (Some g) e q =
          let b = named_back (names_at m t.unit) t.name g e in
          let k : g.kind ≡ h.kind = cc in
          let f = filter_one (λ (g : NamedMember). test g.kind) (names_at m t.unit) g b.0 (ap test k ∙ h.passes) in
          let s = stands_map (λ (g : NamedMember). thing t.unit g.name)
          (filter (λ (g : NamedMember). test g.kind) (names_at m t.unit)) f.place g f.stands in
          subst (λ (x : ℕ). IsOneOf (things_in test m t.unit) (thing t.unit x)) b.1
          (record { place = f.place; stands = s })
