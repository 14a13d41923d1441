-- The list of units is closed under what members make, each unit in it but the first is made by a member of one in it,
-- and none stands twice where no two members of a unit have one name.
use Rattle.std.proofs.Common.{Bool, true, false, ◌≡◌, ◌+◌, ◌⊎◌, inl, inr, ℕ, zero, suc, List, [], ◌∷◌, ◌++◌, Some, length, length-append, refl, sym, ◌∙◌, ap, subst, append_assoc, arith}
use Rattle.ar_base.specs.Lists.{Stands, IsOneOf, AreDifferent}
use Rattle.ar_base.proofs.Standing.{stands_one, stands_split, stands_none, one_here, one_none, one_cases, one_first, one_rest, one_left, one_right}
use Rattle.class_table.specs.Members.{NamedMember, MemberKind, Inner, Clone, Alias, Variable, Parameter, Kept, Event, Observer}
use Rattle.hierarchy.specs.Models.{RootedModel}
use Rattle.hierarchy.specs.Units.{UnitLevel, UnitPath, Thing, has_number, bodies_of, body_of, set_at_of, names_at}
use Rattle.hierarchy.specs.Walks.{WalkOutcome, Reaches, Nothing, Loops, NameLeads, inner, clones, cloned}
use Rattle.hierarchy.specs.Listing.{MakesUnit, MakesNone, ListsUnits, Insides, unit, none, makes, passes, is_inner}
use Rattle.hierarchy.proofs.Lists.{makes_one, makes_or_none}
use Rattle.hierarchy.proofs.Outcomes.{unit_of_reaches}

-- no two of these have one name
pub record AreApart (gs : List NamedMember) : Type 0 where
  pub apart : (i j : ℕ) (g h : NamedMember) → Stands gs i g → Stands gs j h → g.name ≡ h.name → i ≡ j

mutual
  -- what a member of a unit of the list makes is in the list
  pub lists_closed : {m : RootedModel} {u : UnitPath} {us : List UnitPath} → ListsUnits m true u us
      → (w v : UnitPath) (i : ℕ) (g : NamedMember) → IsOneOf us w → Stands (names_at m w) i g → MakesUnit m w g v
      → IsOneOf us v
  lists_closed {m = m} {u = u} (unit {us = us} d) w v i g j h k =
      elim (one_cases u us w j) [
        | inl q ↦ one_rest u us v (insides_made d v i g (subst (λ w. Stands (names_at m w) i g) (sym q) h)
            (subst (λ w. MakesUnit m w g v) (sym q) k))
        | inr q ↦ one_rest u us v (insides_closed d w v i g q h k)
      ]

  pub insides_closed : {m : RootedModel} {u : UnitPath} {gs : List NamedMember} {us : List UnitPath}
      → Insides m true u gs us → (w v : UnitPath) (i : ℕ) (g : NamedMember) → IsOneOf us w → Stands (names_at m w) i g
      → MakesUnit m w g v → IsOneOf us v
  insides_closed none w v i g j h k = absurd (one_none w j)
  insides_closed (makes {us = us} {vs = vs} k' d ds) w v i g j h k =
      elim (stands_split us vs j.place w j.stands) [
        | inl p ↦ one_left us vs v (lists_closed d w v i g (one_here us j.place w p) h k)
        | inr p ↦ one_right us vs v (insides_closed ds w v i g (one_here vs p.0 w p.2) h k)
      ]
  insides_closed (passes n ds) w v i g j h k = insides_closed ds w v i g j h k

  pub insides_made : {m : RootedModel} {u : UnitPath} {gs : List NamedMember} {us : List UnitPath}
      → Insides m true u gs us → (v : UnitPath) (i : ℕ) (g : NamedMember) → Stands gs i g → MakesUnit m u g v
      → IsOneOf us v
  insides_made none v i g h k = absurd (stands_none i g h)
  insides_made {m = m} {u = u} {gs = g' ∷ gs} (makes {v = w} {us = us} {vs = vs} k' d ds) v zero g h k =
      let q : g' ≡ g = stands_one (g' ∷ gs) 0 g' g refl h in
      let r : w ≡ v = makes_one g (subst (λ g. MakesUnit m u g w) q k') k in
      one_left us vs v (subst (λ z. IsOneOf us z) r (lists_first d))
  insides_made (makes {us = us} {vs = vs} k' d ds) v (suc i) g h k = one_right us vs v (insides_made ds v i g h k)
  insides_made {m = m} {u = u} {gs = g' ∷ gs} (passes n ds) v zero g h k =
      absurd (makes_or_none k (subst (λ g. MakesNone m u g) (stands_one (g' ∷ gs) 0 g' g refl h) n))
  insides_made (passes n ds) v (suc i) g h k = insides_made ds v i g h k

  pub lists_first : {m : RootedModel} {u : UnitPath} {us : List UnitPath} → ListsUnits m true u us → IsOneOf us u
  lists_first {u = u} (unit {us = us} d) = one_first u us

-- a unit that is made by a member of a unit of the list
pub record IsMadeIn (m : RootedModel) (us : List UnitPath) (w : UnitPath) : Type 0 where
  pub owner : UnitPath
  pub there : IsOneOf us owner
  pub place : ℕ
  pub member : NamedMember
  pub stands : Stands (names_at m owner) place member
  pub made : MakesUnit m owner member w

made_left : {m : RootedModel} {us : List UnitPath} {w : UnitPath} (vs : List UnitPath) → IsMadeIn m us w
    → IsMadeIn m (us ++ vs) w
made_left {us = us} vs i = record {
  owner = i.owner;
  there = one_left us vs i.owner i.there;
  place = i.place;
  member = i.member;
  stands = i.stands;
  made = i.made;
}

made_right : {m : RootedModel} {vs : List UnitPath} {w : UnitPath} (us : List UnitPath) → IsMadeIn m vs w
    → IsMadeIn m (us ++ vs) w
made_right {vs = vs} us i = record {
  owner = i.owner;
  there = one_right us vs i.owner i.there;
  place = i.place;
  member = i.member;
  stands = i.stands;
  made = i.made;
}

-- a unit that is made by one of these members of u, or in the list
abbrev pub IsMadeBy : RootedModel → UnitPath → List NamedMember → List UnitPath → UnitPath → Type 0
IsMadeBy m u gs us w = ((i : ℕ) × (g : NamedMember) × Stands gs i g × MakesUnit m u g w) ⊎ IsMadeIn m us w

mutual
  pub lists_origin : {m : RootedModel} {u : UnitPath} {us : List UnitPath} → ListsUnits m true u us → (w : UnitPath)
      → IsOneOf us w → (w ≡ u) ⊎ IsMadeIn m us w
  lists_origin {m = m} {u = u} (unit {us = us} d) w j =
      elim (one_cases u us w j) [
        | inl q ↦ inl (sym q)
        | inr q ↦ elim (insides_origin d w q) [
          | inl k ↦ inr (record {
            owner = u;
            there = one_first u us;
            place = k.0;
            member = k.1;
            stands = k.2;
            made = k.3;
          })
          | inr k ↦ inr (record {
            owner = k.owner;
            there = one_rest u us k.owner k.there;
            place = k.place;
            member = k.member;
            stands = k.stands;
            made = k.made;
          })
        ]
      ]

  pub insides_origin : {m : RootedModel} {u : UnitPath} {gs : List NamedMember} {us : List UnitPath}
      → Insides m true u gs us → (w : UnitPath) → IsOneOf us w → IsMadeBy m u gs us w
  insides_origin none w j = absurd (one_none w j)
  insides_origin {m = m} {u = u} (makes {v = v} {g = g} {us = us} {vs = vs} k d ds) w j =
      elim (stands_split us vs j.place w j.stands) [
        | inl p ↦ elim (lists_origin d w (one_here us j.place w p)) [
          | inl q ↦ inl (0, g, refl, subst (λ w. MakesUnit m u g w) (sym q) k)
          | inr q ↦ inr (made_left vs q)
        ]
        | inr p ↦ elim (insides_origin ds w (one_here vs p.0 w p.2)) [
          | inl q ↦ inl (suc q.0, q.1, q.2, q.3)
          | inr q ↦ inr (made_right us q)
        ]
      ]
  insides_origin (passes n ds) w j = elim (insides_origin ds w j)
      [ inl q ↦ inl (suc q.0, q.1, q.2, q.3) | inr q ↦ inr q ]

-- w is u, or stands somewhere in it
pub record IsUnder (u w : UnitPath) : Type 0 where
  pub levels : List UnitLevel
  pub is : w ≡ levels ++ u

under_same : (u : UnitPath) → IsUnder u u
under_same u = record { levels = []; is = refl }

under_next : {u w : UnitPath} (l : UnitLevel) → IsUnder (l ∷ u) w → IsUnder u w
under_next {u = u} l i = record { levels = i.levels ++ l ∷ []; is = i.is ∙ sym (append_assoc i.levels (l ∷ []) u) }

suffix_same : (xs ys us vs : UnitPath) → xs ++ us ≡ ys ++ vs → length us ≡ length vs → us ≡ vs
suffix_same [] [] us vs e l = e
suffix_same [] (y ∷ ys) us vs e l = let h = ap length e in let k = length-append ys vs in absurd (omega arith)
suffix_same (x ∷ xs) [] us vs e l = let h = ap length e in let k = length-append xs us in absurd (omega arith)
suffix_same (x ∷ xs) (y ∷ ys) us vs e l = let r : xs ++ us ≡ ys ++ vs = cc in suffix_same xs ys us vs r l

-- the unit that a member makes stands in the member's unit, under the member's name
pub record IsNamed (u v : UnitPath) (x : ℕ) : Type 0 where
  pub level : UnitLevel
  pub is : v ≡ level ∷ u
  pub name : level.name ≡ x

clone_named : (m : RootedModel) (u v : UnitPath) (x : ℕ) (r : WalkOutcome) → Reaches v ≡ cloned m u x r → IsNamed u v x
clone_named m u v x Nothing e = cc
clone_named m u v x Loops e = cc
clone_named m u v x (Reaches t) e = go (has_number (bodies_of m u) (body_of m t)) refl
  where
    no : Reaches v ≡ Loops → IsNamed u v x
    no e = cc

    go : (b : Bool) → has_number (bodies_of m u) (body_of m t) ≡ b → IsNamed u v x
    go true h = no (rw h at e)
    go false h = let k = rw h at e in record { level = record { name = x; body = body_of m t; set_at = set_at_of t }; is = unit_of_reaches k; name = refl }

leads_named : (m : RootedModel) (f : List Thing) (u v : UnitPath) (x : ℕ) (k : MemberKind) → is_inner k ≡ true
    → NameLeads m f u x (Some k) (Reaches v) → IsNamed u v x
leads_named m f u v x (Inner b from) o inner =
    record { level = record { name = x; body = b; set_at = from }; is = refl; name = refl }
leads_named m f u v x (Clone p) o (clones {o = r} n g e) = clone_named m u v x r e
leads_named m f u v x (Alias p) o d = cc o
leads_named m f u v x (Variable t ss) o d = cc o
leads_named m f u v x (Parameter t e) o d = cc o
leads_named m f u v x Kept o d = cc o
leads_named m f u v x Event o d = cc o
leads_named m f u v x (Observer t e) o d = cc o

pub made_named : (m : RootedModel) (u v : UnitPath) (g : NamedMember) → MakesUnit m u g v → IsNamed u v g.name
made_named m u v g k = leads_named m [] u v g.name g.kind k.inner k.leads

pub apart_rest : {g : NamedMember} {gs : List NamedMember} → AreApart (g ∷ gs) → AreApart gs
apart_rest a = record { apart = λ i j g n p q e. let h = a.apart (suc i) (suc j) g n p q e in omega (arith, h) }

-- a unit under one that a member makes, with the member
record IsUnderMade (m : RootedModel) (u : UnitPath) (gs : List NamedMember) (w : UnitPath) : Type 0 where
  place : ℕ
  member : NamedMember
  stands : Stands gs place member
  made_unit : UnitPath
  made : MakesUnit m u member made_unit
  under : IsUnder made_unit w

mutual
  pub lists_under : {m : RootedModel} {u : UnitPath} {us : List UnitPath} → ListsUnits m true u us → (w : UnitPath)
      → IsOneOf us w → IsUnder u w
  lists_under {m = m} {u = u} (unit {us = us} d) w j = elim (one_cases u us w j) [
    | inl q ↦ subst (λ w. IsUnder u w) q (under_same u)
    | inr q ↦ let i = insides_under d w q in let n = made_named m u i.made_unit i.member i.made in
        under_next n.level (subst (λ v. IsUnder v w) n.is i.under)
  ]

  insides_under : {m : RootedModel} {u : UnitPath} {gs : List NamedMember} {us : List UnitPath} → Insides m true u gs us
      → (w : UnitPath) → IsOneOf us w → IsUnderMade m u gs w
  insides_under none w j = absurd (one_none w j)
  insides_under (makes {v = v} {g = g} {us = us} {vs = vs} k d ds) w j =
      elim (stands_split us vs j.place w j.stands) [
        | inl p ↦ record {
          place = 0;
          member = g;
          stands = refl;
          made_unit = v;
          made = k;
          under = lists_under d w (one_here us j.place w p);
        }
        | inr p ↦ let i = insides_under ds w (one_here vs p.0 w p.2) in
            record {
              place = suc i.place;
              member = i.member;
              stands = i.stands;
              made_unit = i.made_unit;
              made = i.made;
              under = i.under;
            }
      ]
  insides_under (passes n ds) w j = let i = insides_under ds w j in record { place = suc i.place; member = i.member; stands = i.stands; made_unit = i.made_unit; made = i.made; under = i.under }

-- w stands in the units of two members: they are one
pub two_members : (m : RootedModel) (u v z w : UnitPath) (g n : NamedMember) → MakesUnit m u g v → MakesUnit m u n z
    → IsUnder v w → IsUnder z w → g.name ≡ n.name
two_members m u v z w g n k h i j =
    let a = made_named m u v g k in let b = made_named m u z n h in
    let la = ap length a.is in let lb = ap length b.is in
    let same : v ≡ z = suffix_same i.levels j.levels v z (sym i.is ∙ j.is) (omega arith) in
    let lv : a.level ∷ u ≡ b.level ∷ u = sym a.is ∙ same ∙ b.is in
    let ll : a.level ≡ b.level = cc in
    sym a.name ∙ ap (λ (l : UnitLevel). l.name) ll ∙ b.name

not_inside : (m : RootedModel) (u : UnitPath) {gs : List NamedMember} {us : List UnitPath} → Insides m true u gs us
    → IsOneOf us u → ⊥
not_inside m u d j =
    let i = insides_under d u j in let n = made_named m u i.made_unit i.member i.made in
    let a = ap length i.under.is in let b = length-append i.under.levels i.made_unit in let c = ap length n.is in omega arith

different_cons : (u : UnitPath) (us : List UnitPath) → (IsOneOf us u → ⊥) → AreDifferent us → AreDifferent (u ∷ us)
different_cons u us n o = record { one = go }
  where
    go : (i j : ℕ) (w : UnitPath) → Stands (u ∷ us) i w → Stands (u ∷ us) j w → i ≡ j
    go zero zero w p q = refl
    go zero (suc j) w p q = absurd (n (one_here us j u (q ∙ sym p)))
    go (suc i) zero w p q = absurd (n (one_here us i u (p ∙ sym q)))
    go (suc i) (suc j) w p q = ap suc (o.one i j w p q)

different_both : (us vs : List UnitPath) → AreDifferent us → AreDifferent vs
    → ((w : UnitPath) → IsOneOf us w → IsOneOf vs w → ⊥) → AreDifferent (us ++ vs)
different_both us vs a b n = record
    { one = λ i j w p q. go i j w (stands_split us vs i w p) (stands_split us vs j w q) }
  where
    go : (i j : ℕ) (w : UnitPath) → Stands us i w ⊎ ((k : ℕ) × (i ≡ length us + k) × Stands vs k w)
        → Stands us j w ⊎ ((k : ℕ) × (j ≡ length us + k) × Stands vs k w) → i ≡ j
    go i j w (inl p) (inl q) = a.one i j w p q
    go i j w (inl p) (inr q) = absurd (n w (one_here us i w p) (one_here vs q.0 w q.2))
    go i j w (inr p) (inl q) = absurd (n w (one_here us j w q) (one_here vs p.0 w p.2))
    go i j w (inr p) (inr q) = let h = b.one p.0 q.0 w p.2 q.2 in let x = p.1 in let y = q.1 in omega arith

mutual
  pub lists_different : {m : RootedModel} {u : UnitPath} {us : List UnitPath} → ListsUnits m true u us
      → ((w : UnitPath) → AreApart (names_at m w)) → AreDifferent us
  lists_different {m = m} {u = u} (unit {us = us} d) a =
      different_cons u us (not_inside m u d) (insides_different d a (a u))

  insides_different : {m : RootedModel} {u : UnitPath} {gs : List NamedMember} {us : List UnitPath}
      → Insides m true u gs us → ((w : UnitPath) → AreApart (names_at m w)) → AreApart gs → AreDifferent us
  insides_different none a b = record { one = λ i j w p q. absurd (stands_none i w p) }
  insides_different {m = m} {u = u} (makes {v = v} {g = g} {us = us} {vs = vs} k d ds) a b =
      different_both us vs (lists_different d a) (insides_different ds a (apart_rest b))
      (λ w p q. let i = insides_under ds w q in
      let h = b.apart 0 (suc i.place) g i.member refl i.stands (two_members m u v i.made_unit w g i.member k i.made (lists_under d w p) i.under) in absurd (omega (arith, h)))
  insides_different (passes n ds) a b = insides_different ds a (apart_rest b)
