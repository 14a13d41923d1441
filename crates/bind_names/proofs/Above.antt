-- Each unit is listed behind the unit above it.
use Rattle.std.proofs.Common.{◌≡◌, ◌⊎◌, inl, inr, ◌+◌, ◌<◌, ℕ, zero, suc, true, List, [], ◌∷◌, length, refl, sym, ◌∙◌, subst, arith}
use Rattle.ar_base.specs.Lists.{Stands}
use Rattle.ar_base.proofs.Standing.{stands_one, stands_none, stands_left, stands_right, stands_split}
use Rattle.class_table.specs.Members.{NamedMember}
use Rattle.hierarchy.specs.Models.{RootedModel}
use Rattle.hierarchy.specs.ModelsInside.{KeepsTextRules}
use Rattle.hierarchy.specs.Units.{UnitLevel, UnitPath}
use Rattle.hierarchy.specs.Listing.{ListsUnits, Insides, unit, none, makes, passes, AreUnits}
use Rattle.hierarchy.proofs.Apart.{units_different}
use Rattle.hierarchy.proofs.Places.{made_named}

-- the unit is in the list, before place n
record IsBefore (us : List UnitPath) (n : ℕ) (v : UnitPath) : Type 0 where
  place : ℕ
  before : place < n
  stands : Stands us place v

-- the tail of a path
cons_tail : (a b : UnitLevel) (v w : UnitPath) → ◌≡◌ {A = UnitPath} (a ∷ v) (b ∷ w) → v ≡ w
cons_tail a b v w e = cc

mutual
  -- the unit at place n is the first, or the unit above it is before
  lists_above : {m : RootedModel} {u : UnitPath} {us : List UnitPath} → ListsUnits m true u us → (n : ℕ)
      (l : UnitLevel) (v : UnitPath) → Stands us n (l ∷ v) → ((l ∷ v) ≡ u) ⊎ IsBefore us n v
  lists_above {u = u} (unit {us = us} d) zero l v s = inl (stands_one (u ∷ us) 0 (l ∷ v) u s refl)
  lists_above {u = u} (unit {us = us} d) (suc n) l v s = elim (insides_above d n l v s) [
    | inl e ↦ inr (record {
      place = 0;
      before = omega arith;
      stands = subst (λ (w : UnitPath). Stands (u ∷ us) 0 w) (sym e) refl;
    })
    | inr b ↦ inr (record {
      place = suc b.place;
      before = (let l = b.before in omega (arith, l));
      stands = b.stands;
    })
  ]

  insides_above : {m : RootedModel} {u : UnitPath} {gs : List NamedMember} {us : List UnitPath}
      → Insides m true u gs us → (n : ℕ) (l : UnitLevel) (v : UnitPath) → Stands us n (l ∷ v)
      → (v ≡ u) ⊎ IsBefore us n v
  insides_above none n l v s = absurd (stands_none n (l ∷ v) s)
  insides_above {m = m} {u = u} (makes {v = w} {g = g} {us = us} {vs = vs} k d ds) n l v s =
      elim (stands_split us vs n (l ∷ v) s) [
        | inl p ↦ elim (lists_above d n l v p) [
          | inl e ↦ inl (cons_tail l _ v u (e ∙ (made_named m u w g k).is))
          | inr b ↦ inr (record {
            place = b.place;
            before = b.before;
            stands = stands_left us vs b.place v b.stands;
          })
        ]
        | inr p ↦ elim (insides_above ds p.0 l v p.2) [
          | inl e ↦ inl e
          | inr b ↦ inr (record {
            place = length us + b.place;
            before = (let q = p.1 in let l = b.before in omega (arith, q, l));
            stands = stands_right us vs b.place (length us + b.place) v refl b.stands;
          })
        ]
      ]
  insides_above (passes n ds) k l v s = insides_above ds k l v s

pub above_first : {m : RootedModel} {units : List UnitPath} → KeepsTextRules m → AreUnits m units → (n k : ℕ)
    (l : UnitLevel) (v : UnitPath) → Stands units n (l ∷ v) → Stands units k v → k < n
above_first kept are n k l v s t = elim (lists_above are n l v s) [
  | inl e ↦ absurd (never e)
  | inr b ↦
      let same = (units_different kept are).one k b.place v t b.stands in
      let lower = b.before in
      omega (arith, same, lower)
]
  where
    never : ◌≡◌ {A = UnitPath} (l ∷ v) [] → ⊥
    never e = cc
