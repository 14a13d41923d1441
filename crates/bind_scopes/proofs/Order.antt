-- Things in the order of units and members: none is listed twice, and a unit's own stand in member order.
use Rattle.std.proofs.Common.{◌≡◌, ℕ, zero, suc, ◌+◌, ◌<◌, ◌≤◌, ◌⊎◌, inl, inr, Bool, true, false, if◌then◌else◌, List, [], ◌∷◌, length, refl, sym, ◌∙◌, ap, subst, arith}
use Rattle.std.specs.List.{flat_map, filter}
use Rattle.ar_base.specs.Lists.{Stands, IsOneOf, AreDifferent}
use Rattle.ar_base.proofs.Standing.{stands_none, stands_split, stands_within, stands_map_back, one_here}
use Rattle.ar_base.proofs.Comparing.{side}
use Rattle.class_table.specs.Members.{NamedMember, MemberKind}
use Rattle.hierarchy.specs.Models.{RootedModel}
use Rattle.hierarchy.specs.ModelsInside.{KeepsTextRules}
use Rattle.hierarchy.specs.Units.{UnitPath, Thing, names_at}
use Rattle.hierarchy.specs.Walks.{thing}
use Rattle.hierarchy.specs.Listing.{AreUnits, things_in}
use Rattle.hierarchy.proofs.Apart.{members_apart, units_different}
use Rattle.hierarchy.proofs.Things.{filter_back, flat_origin, thing_unit}
use Rattle.source_meaning.specs.Tested.{IsEarlierMember}

-- two items that stand in this order
pub record InOrder {A : Type 0} (xs : List A) (a b : A) : Type 0 where
  pub j : ℕ
  pub k : ℕ
  pub before : j < k
  pub first : Stands xs j a
  pub second : Stands xs k b

module _ {A : Type 0} (p : A → Bool) where
  order_rest : (x : A) (xs : List A) (a b : A) → InOrder xs a b → InOrder (x ∷ xs) a b
  order_rest x xs a b o = record { j = suc o.j; k = suc o.k; before = (let h = o.before in omega (arith, h)); first = o.first; second = o.second }

  -- what stays keeps its order
  pub filter_order : (xs : List A) (i j : ℕ) (a b : A) → i < j → Stands (filter p xs) i a → Stands (filter p xs) j b
      → InOrder xs a b
  filter_order [] i j a b l s t = absurd (stands_none i a s)
  filter_order (x ∷ xs) i j a b l s t = go (λ m n h f g. filter_order xs m n a b h f g) (p x) i j l s t
    where
      go : ((m n : ℕ) → m < n → Stands (filter p xs) m a → Stands (filter p xs) n b → InOrder xs a b)
          → (c : Bool) (m n : ℕ) → m < n
          → Stands (if c then x ∷ filter p xs else filter p xs) m a
          → Stands (if c then x ∷ filter p xs else filter p xs) n b → InOrder (x ∷ xs) a b
      go more false m n h f g = order_rest x xs a b (more m n h f g)
      go more true zero zero h f g = absurd (omega (arith, h))
      go more true zero (suc n) h f g = let w = filter_back p xs b (one_here (filter p xs) n b g) in record { j = 0; k = suc w.0.place; before = omega arith; first = f; second = w.0.stands }
      go more true (suc m) zero h f g = absurd (omega (arith, h))
      go more true (suc m) (suc n) h f g = order_rest x xs a b (more m n (omega (arith, h)) f g)

module _ {A B : Type 0} (f : A → List B) where
  rest_different : (u : A) (us : List A) → AreDifferent (u ∷ us) → AreDifferent us
  rest_different u us d = record { one = λ m n a s t. let h = d.one (suc m) (suc n) a s t in omega (arith, h) }

  not_again : (u : A) (us : List A) → AreDifferent (u ∷ us) → (k : ℕ) → Stands us k u → ⊥
  not_again u us d k s = let h = d.one 0 (suc k) u refl s in omega (arith, h)

  -- what different items give is different, where each gives its own
  pub flat_different : (us : List A) → AreDifferent us → ((u : A) → AreDifferent (f u))
      → ((u v : A) (b : B) → IsOneOf (f u) b → IsOneOf (f v) b → v ≡ u) → AreDifferent (flat_map f us)
  flat_different [] d e o = record { one = λ i j b s t. absurd (stands_none i b s) }
  flat_different (u ∷ us) d e o = record {
    one = λ i j b s t. by i j b (flat_different us (rest_different u us d) e o)
        (stands_split (f u) (flat_map f us) i b s) (stands_split (f u) (flat_map f us) j b t);
  }
    where
      again : (b : B) (i k : ℕ) → Stands (f u) i b → Stands (flat_map f us) k b → ⊥
      again b i k s t =
          let w = flat_origin f us k b t in
          not_again u us d w.from (subst (λ (z : A). Stands us w.from z) (o u w.item b (one_here (f u) i b s) w.is_one)
          w.stands)

      by : (i j : ℕ) (b : B) → AreDifferent (flat_map f us)
          → Stands (f u) i b ⊎ ((k : ℕ) × (i ≡ length (f u) + k) × Stands (flat_map f us) k b)
          → Stands (f u) j b ⊎ ((k : ℕ) × (j ≡ length (f u) + k) × Stands (flat_map f us) k b) → i ≡ j
      by i j b r (inl s) (inl t) = (e u).one i j b s t
      by i j b r (inl s) (inr t) = absurd (again b i t.0 s t.2)
      by i j b r (inr s) (inl t) = absurd (again b j s.0 t s.2)
      by i j b r (inr s) (inr t) = let h = r.one s.0 t.0 b s.2 t.2 in let a = s.1 in let c = t.1 in omega (arith, a, c, h)

module _ (m : RootedModel) (test : MemberKind → Bool) where
  -- two things of a unit that stand in this order come from members in this order
  things_order : (u : UnitPath) (i j : ℕ) (t s : Thing) → i < j → Stands (things_in test m u) i t
      → Stands (things_in test m u) j s → IsEarlierMember m u t.name s.name
  things_order u i j t s l p q =
      let a = stands_map_back (λ (g : NamedMember). thing u g.name)
      (filter (λ (g : NamedMember). test g.kind) (names_at m u)) i t p in
      let b = stands_map_back (λ (g : NamedMember). thing u g.name)
      (filter (λ (g : NamedMember). test g.kind) (names_at m u)) j s q in
      let o = filter_order (λ (g : NamedMember). test g.kind) (names_at m u) i j a.0 b.0 l a.1 b.1 in
      record {
        j = o.j;
        k = o.k;
        first = a.0;
        later = b.0;
        is_first = o.first;
        is_later = o.second;
        before = o.before;
        first_name = ap (λ (z : Thing). z.name) a.2;
        later_name = ap (λ (z : Thing). z.name) b.2;
      }

  -- of one name there is no earlier one
  pub not_earlier : KeepsTextRules m → (u : UnitPath) (x : ℕ) → IsEarlierMember m u x x → ⊥
  not_earlier k u x e = let h = (members_apart k u).apart e.j e.k e.first e.later e.is_first e.is_later (e.first_name ∙ sym e.later_name) in let l = e.before in omega (arith, h, l)

  -- of two names one alone is the earlier
  pub one_earlier : KeepsTextRules m → (u : UnitPath) (x y : ℕ) → IsEarlierMember m u x y → IsEarlierMember m u y x → ⊥
  one_earlier k u x y e f =
      let g = (members_apart k u).apart e.j f.k e.first f.later e.is_first f.is_later
      (e.first_name ∙ sym f.later_name) in
      let h = (members_apart k u).apart e.k f.j e.later f.first e.is_later f.is_first
      (e.later_name ∙ sym f.first_name) in
      let l = e.before in let n = f.before in omega (arith, g, h, l, n)

  things_different : KeepsTextRules m → (u : UnitPath) → AreDifferent (things_in test m u)
  things_different k u = record { one = λ i j t p q. by i j t p q (side i j) (side j i) }
    where
      by : (i j : ℕ) (t : Thing) → Stands (things_in test m u) i t → Stands (things_in test m u) j t → (i ≤ j) ⊎ (j < i)
          → (j ≤ i) ⊎ (i < j) → i ≡ j
      by i j t p q (inl a) (inl b) = omega (arith, a, b)
      by i j t p q (inr a) b = absurd (not_earlier k u t.name (things_order u j i t t a q p))
      by i j t p q (inl a) (inr b) = absurd (not_earlier k u t.name (things_order u i j t t b p q))

  -- no thing is listed twice
  pub all_different : {units : List UnitPath} → KeepsTextRules m → AreUnits m units
      → AreDifferent (flat_map (things_in test m) units)
  all_different {units = units} k are =
      flat_different (things_in test m) units (units_different k are) (things_different k)
      (λ u v t a b. sym (thing_unit m test v t b) ∙ thing_unit m test u t a)

  -- two things of one unit that are listed in this order come from members in this order
  ordered : (us : List UnitPath) → AreDifferent us → (i j : ℕ) (t s : Thing) → i < j
      → Stands (flat_map (things_in test m) us) i t → Stands (flat_map (things_in test m) us) j s → t.unit ≡ s.unit
      → IsEarlierMember m t.unit t.name s.name
  ordered [] d i j t s l p q e = absurd (stands_none i t p)
  ordered (u ∷ us) d i j t s l p q e =
      by (λ a b h f g. ordered us (rest_different (things_in test m) u us d) a b t s h f g e)
      (stands_split (things_in test m u) (flat_map (things_in test m) us) i t p)
      (stands_split (things_in test m u) (flat_map (things_in test m) us) j s q)
    where
      by : ((a b : ℕ) → a < b → Stands (flat_map (things_in test m) us) a t
          → Stands (flat_map (things_in test m) us) b s → IsEarlierMember m t.unit t.name s.name)
          → Stands (things_in test m u) i t
          ⊎ ((k : ℕ) × (i ≡ length (things_in test m u) + k) × Stands (flat_map (things_in test m) us) k t)
          → Stands (things_in test m u) j s
          ⊎ ((k : ℕ) × (j ≡ length (things_in test m u) + k) × Stands (flat_map (things_in test m) us) k s)
          → IsEarlierMember m t.unit t.name s.name
      by more (inl f) (inl g) = subst (λ (z : UnitPath). IsEarlierMember m z t.name s.name)
          (sym (thing_unit m test u t (one_here (things_in test m u) i t f))) (things_order u i j t s l f g)
      by more (inl f) (inr g) =
          let w = flat_origin (things_in test m) us g.0 s g.2 in
          let r : w.item ≡ u = sym (thing_unit m test w.item s w.is_one)
          ∙ (sym e ∙ thing_unit m test u t (one_here (things_in test m u) i t f)) in
          absurd (not_again (things_in test m) u us d w.from (subst (λ (z : UnitPath). Stands us w.from z) r w.stands))
      by more (inr f) (inl g) = absurd (let h = stands_within (things_in test m u) j s g in let a = f.1 in omega (arith, h, a, l))
      by more (inr f) (inr g) = more f.0 g.0 (let a = f.1 in let b = g.1 in omega (arith, a, b, l)) f.2 g.2

  pub listed_order : {units : List UnitPath} → KeepsTextRules m → AreUnits m units → (i j : ℕ) (t s : Thing) → i < j
      → Stands (flat_map (things_in test m) units) i t → Stands (flat_map (things_in test m) units) j s
      → t.unit ≡ s.unit → IsEarlierMember m t.unit t.name s.name
  listed_order {units = units} k are i j t s l p q e = ordered units (units_different k are) i j t s l p q e
