-- The units of a model are within the limits, or the first of them pass one.
use Rattle.std.proofs.Common.{◌≡◌, ◌<◌, ◌+◌, ◌++◌, ◌⊎◌, inl, inr, ℕ, zero, suc, Bool, true, false, leb, List, [], ◌∷◌, Result, Ok, Err, length, refl, sym, ap, subst, arith, append_assoc}
use Rattle.std.proofs.lemmas.Bool.{leb-true, leb-false}
use Rattle.ar_base.specs.Counts.{limit_of}
use Rattle.ar_base.specs.declared.counts.Count.TheVariants.{Depth, Units}
use Rattle.ar_base.specs.declared.faults.RuleFault.{RuleFault}
use Rattle.ar_base.specs.declared.faults.RuleFault.TheVariants.{Limit}
use Rattle.class_table.specs.Members.{NamedMember}
use Rattle.hierarchy.specs.Models.{RootedModel}
use Rattle.hierarchy.specs.ModelsInside.{KeepsTextRules}
use Rattle.hierarchy.specs.Units.{UnitPath}
use Rattle.hierarchy.specs.Listing.{Unfolded, AreUnits, MakesUnit, ListsUnits, Insides, unit, none, cut, makes, makes_cut, passes}
use Rattle.unit_walks.specs.Growing.{AllShallow}
use Rattle.unit_walks.specs.Unfolding.{Unfolds, whole, over, depth, deep, many}
use Rattle.unit_walks.proofs.Fronts.{made_inside, are_shallow}
use Rattle.source_laws.proofs.Unfolding.{units_listed}

-- Fronts of a list

-- the first list has at least one item, and the second begins with it
data IsFront {A : Type 0} : List A → List A → Type 0 where
  one : {x : A} {xs : List A} → IsFront (x ∷ []) (x ∷ xs)
  more : {x : A} {f xs : List A} → IsFront f xs → IsFront (x ∷ f) (x ∷ xs)

-- a front of two lists one behind the other is one of the first list, or the first list with a front of the second
parted : {A : Type 0} {f : List A} (xs ys : List A) → IsFront f (xs ++ ys)
    → IsFront f xs ⊎ ((g : List A) × (f ≡ xs ++ g) × IsFront g ys)
parted {f = f} [] ys h = inr (f, refl, h)
parted (x ∷ xs) ys one = inl one
parted (x ∷ xs) ys (more h) = elim (parted xs ys h)
    [ inl i ↦ inl (more i) | inr g ↦ inr (g.0, ap (λ zs. x ∷ zs) g.1, g.2) ]

before : {A : Type 0} {f xs : List A} (ys : List A) → IsFront f xs → IsFront f (xs ++ ys)
before ys one = one
before ys (more h) = more (before ys h)

behind : {A : Type 0} (xs : List A) {f ys : List A} → IsFront f ys → IsFront (xs ++ f) (xs ++ ys)
behind [] h = h
behind (x ∷ xs) h = more (behind xs h)

-- a front of a front
further : {A : Type 0} (xs zs : List A) {f gs ys : List A} → gs ≡ xs ++ zs → IsFront f xs → IsFront gs ys
    → IsFront f ys
further [] zs e i h = elim i [ ]
further (y ∷ xs) zs e one (one {x = x} {xs = r}) = let q : x ≡ y = cc in
    subst (λ z. IsFront (y ∷ []) (z ∷ r)) (sym q) one
further (y ∷ xs) zs e one (more {x = x} {xs = r} h) = let q : x ≡ y = cc in
    subst (λ z. IsFront (y ∷ []) (z ∷ r)) (sym q) one
further (y ∷ []) zs e (more i) h = elim i [ ]
further (y ∷ a ∷ bs) zs e (more i) (one {x = x}) = absurd (cc)
further (y ∷ a ∷ bs) zs e (more {f = f} i) (more {x = x} {f = g} {xs = r} h) =
    let q : x ≡ y = cc in
    let t : g ≡ (a ∷ bs) ++ zs = cc in
    subst (λ z. IsFront (y ∷ f) (z ∷ r)) (sym q) (more (further (a ∷ bs) zs t i h))

-- of a list longer than n its front of n + 1 items
front_of : {A : Type 0} (n : ℕ) (xs : List A) → n < length xs → (f : List A) × (length f ≡ n + 1) × IsFront f xs
front_of n [] l = absurd (omega (arith, l))
front_of zero (x ∷ xs) l = (x ∷ [], refl, one)
front_of (suc n) (x ∷ xs) l = let g = front_of n xs (omega (arith, l)) in
    (x ∷ g.0, (let e = g.1 in omega (arith, e)), more g.2)

mutual
  fronts : {m : RootedModel} {w : Bool} {u : UnitPath} {us f : List UnitPath} → ListsUnits m w u us → IsFront f us
      → ListsUnits m false u f
  fronts (unit d) one = unit cut
  fronts (unit d) (more h) = unit (fronts_inside d h)

  fronts_inside : {m : RootedModel} {w : Bool} {u : UnitPath} {gs : List NamedMember} {us f : List UnitPath}
      → Insides m w u gs us → IsFront f us → Insides m false u gs f
  fronts_inside none h = elim h [ ]
  fronts_inside cut h = elim h [ ]
  fronts_inside {m = m} {u = u} {gs = gs} (makes {us = us} {vs = vs} k d ds) h = elim (parted us vs h) [
    | inl i ↦ makes_cut k (fronts d i)
    | inr g ↦ subst (λ z. Insides m false u gs z) (sym g.1) (makes k d (fronts_inside ds g.2))
  ]
  fronts_inside (makes_cut k d) h = makes_cut k (fronts d h)
  fronts_inside (passes n ds) h = passes n (fronts_inside ds h)

-- Depth

all_both : (us vs : List UnitPath) → AllShallow us → AllShallow vs → AllShallow (us ++ vs)
all_both [] vs h k = k
all_both (u ∷ us) vs (p, h) k = (p, all_both us vs h k)

front_shallow : {f : List UnitPath} (us : List UnitPath) → AllShallow us → IsFront f us → AllShallow f
front_shallow [] h i = elim i [ ]
front_shallow (u ∷ us) (p, h) one = (p, tt)
front_shallow (u ∷ us) (p, h) (more i) = (p, front_shallow us h i)

-- the list goes on with a unit that is one too deep, behind units that are not
record HasDeep (us : List UnitPath) : Type 0 where
  pub front : List UnitPath
  pub deepest : UnitPath
  pub shallow : AllShallow front
  pub one_more : depth deepest ≡ limit_of Depth + 1
  pub is_front : IsFront (front ++ deepest ∷ []) us

below : (m : RootedModel) (u v : UnitPath) (g : NamedMember) → MakesUnit m u g v → depth v ≡ depth u + 1
below m u v g k = let e = ap length (made_inside m u v g k).1 in omega (arith, e)

begins : {m : RootedModel} {w : Bool} {v : UnitPath} {us : List UnitPath} → ListsUnits m w v us → IsFront (v ∷ []) us
begins (unit d) = one

-- a unit that is made is not too deep, or it is one too deep
deep_made : {m : RootedModel} {u v : UnitPath} {g : NamedMember} {us : List UnitPath} → MakesUnit m u g v → length u < 64
    → IsFront (v ∷ []) us → (length v < 64 → AllShallow us ⊎ HasDeep us) → AllShallow us ⊎ HasDeep us
deep_made {m = m} {u = u} {v = v} {g = g} {us = us} k l f on = go (leb 64 (length v)) refl
  where
    go : (b : Bool) → leb 64 (length v) ≡ b → AllShallow us ⊎ HasDeep us
    go true e = let a = leb-true 64 (length v) e in
        let b = below m u v g k in
        inr (record { front = []; deepest = v; shallow = tt; one_more = omega (arith, a, b, l); is_front = f })
    go false e = on (leb-false 64 (length v) e)

mutual
  deep_units : {m : RootedModel} {w : Bool} {u : UnitPath} {us : List UnitPath} → ListsUnits m w u us → length u < 64
      → AllShallow us ⊎ HasDeep us
  deep_units {u = u} (unit d) l = elim (deep_inside d l) [
    | inl a ↦ inl (l, a)
    | inr h ↦ inr (record {
      front = u ∷ h.front;
      deepest = h.deepest;
      shallow = (l, h.shallow);
      one_more = h.one_more;
      is_front = more h.is_front;
    })
  ]

  deep_inside : {m : RootedModel} {w : Bool} {u : UnitPath} {gs : List NamedMember} {us : List UnitPath}
      → Insides m w u gs us → length u < 64 → AllShallow us ⊎ HasDeep us
  deep_inside none l = inl tt
  deep_inside cut l = inl tt
  deep_inside {m = m} {u = u} (makes {v = v} {g = g} {us = us} {vs = vs} k d ds) l = elim (deep_made k l (begins d) (λ h. deep_units d h)) [
    | inl a ↦ elim (deep_inside ds l) [
      | inl b ↦ inl (all_both us vs a b)
      | inr h ↦ inr (record {
        front = us ++ h.front;
        deepest = h.deepest;
        shallow = all_both us h.front a h.shallow;
        one_more = h.one_more;
        is_front = subst (λ z. IsFront z (us ++ vs)) (sym (append_assoc us h.front (h.deepest ∷ []))) (behind us h.is_front);
      })
    ]
    | inr h ↦ inr (record {
      front = h.front;
      deepest = h.deepest;
      shallow = h.shallow;
      one_more = h.one_more;
      is_front = before vs h.is_front;
    })
  ]
  deep_inside (makes_cut k d) l = deep_made k l (begins d) (λ h. deep_units d h)
  deep_inside (passes n ds) l = deep_inside ds l

-- Both limits

pub unfolds_some : (m : RootedModel) → KeepsTextRules m → (r : Result Unfolded RuleFault) × Unfolds m r
unfolds_some m k = let us = units_listed m k in go us.0 us.1 (deep_units us.1 (omega arith))
  where
    -- units that are not too deep are not too many, or the first of them are one too many
    counted : (us front : List UnitPath) → AreUnits m us → AllShallow front → ((f : List UnitPath) → IsFront f front
        → IsFront f us) → limit_of Units < length front → (r : Result Unfolded RuleFault) × Unfolds m r
    counted us front a s up l = let f = front_of (limit_of Units) front l in (
      Err (Limit Units),
      over (fronts a (up f.0 f.2)) (many (are_shallow f.0 (front_shallow front s f.2)) f.1),
    )

    go : (us : List UnitPath) → AreUnits m us → AllShallow us ⊎ HasDeep us
        → (r : Result Unfolded RuleFault) × Unfolds m r
    go us a (inl s) = fits (leb (length us) (limit_of Units)) refl
      where
        fits : (b : Bool) → leb (length us) (limit_of Units) ≡ b → (r : Result Unfolded RuleFault) × Unfolds m r
        fits true e = (
          Ok (record { model = m; units = us }),
          whole a (are_shallow us s) (leb-true (length us) (limit_of Units) e),
        )
        fits false e = counted us us a s (λ f h. h) (leb-false (length us) (limit_of Units) e)
    go us a (inr h) = fits (leb (length h.front) (limit_of Units)) refl
      where
        fits : (b : Bool) → leb (length h.front) (limit_of Units) ≡ b → (r : Result Unfolded RuleFault) × Unfolds m r
        fits true e = (
          Err (Limit Depth),
          over (fronts a h.is_front)
              (deep h.front h.deepest (are_shallow h.front h.shallow)
              (leb-true (length h.front) (limit_of Units) e) h.one_more),
        )
        fits false e = counted us h.front a h.shallow (λ f i. further h.front (h.deepest ∷ []) refl i h.is_front)
            (leb-false (length h.front) (limit_of Units) e)
