-- The units of a main block are closed under walks: what a name of one of them leads to is one of them. And each is told
-- apart by the unit above it and its name.
use Rattle.std.proofs.Common.{◌≡◌, ℕ, suc, true, List, [], ◌∷◌, inl, inr, Option, Some, refl, sym, ◌∙◌, ap, subst}
use Rattle.std.proofs.lemmas.Option.{same_Some}
use Rattle.ar_base.specs.Lists.{Stands, IsOneOf, AreDifferent}
use Rattle.ar_base.proofs.Standing.{stands_one, one_here}
use Rattle.ar_syntax.specs.declared.paths.PathStart.{PathStart}
use Rattle.ar_syntax.specs.declared.paths.PathStart.TheVariants.{Here, Owner, Main}
use Rattle.class_table.specs.Members.{NamedMember, MemberKind, Inner, Clone}
use Rattle.hierarchy.specs.Models.{RootedModel}
use Rattle.hierarchy.specs.Units.{UnitPath, UnitLevel, body_of, names_at, name_at, kind_at, start_of}
use Rattle.hierarchy.specs.Walks.{NameLeads, Reaches}
use Rattle.hierarchy.specs.Listing.{MakesUnit, AreUnits, is_inner}
use Rattle.hierarchy.proofs.Apart.{named_back}
use Rattle.hierarchy.proofs.Lists.{makes_one}
use Rattle.hierarchy.proofs.Looking.{main_first, named_so}
use Rattle.hierarchy.proofs.Places.{AreApart, made_named, lists_closed, lists_origin, lists_different}
use Rattle.unit_walks.specs.Ends.{NameEnds, NamesEnd, inner, clones, clones_none, embeds, no_unit, absent, nowhere, arrives, on, stops}
use Rattle.unit_walks.specs.Forms.{AreOnce}
use Rattle.unit_walks.proofs.EndsLead.{ends_gives}
use Rattle.unit_walks.proofs.Fronts.{none_followed}

no_cons : {l : UnitLevel} {above : UnitPath} → l ∷ above ≡ [] → ⊥
no_cons e = cc

-- a unit that a member of the unit above it makes
record IsMadeHere (m : RootedModel) (units : List UnitPath) (l : UnitLevel) (above : UnitPath) : Type 0 where
  there : IsOneOf units above
  place : ℕ
  member : NamedMember
  stands : Stands (names_at m above) place member
  made : MakesUnit m above member (l ∷ above)
  name : l.name ≡ member.name

pub apart_names : {m : RootedModel} → AreOnce m → (w : UnitPath) → AreApart (names_at m w)
apart_names {m = m} o w = record { apart = λ i j g h p q e. o.once (body_of m w) i j g h p q e }

pub units_apart : {m : RootedModel} {units : List UnitPath} → AreOnce m → AreUnits m units → AreDifferent units
units_apart o a = lists_different a (apart_names o)

module _ (m : RootedModel) (units : List UnitPath) (a : AreUnits m units) where
  made_here : (l : UnitLevel) (above : UnitPath) → IsOneOf units (l ∷ above) → IsMadeHere m units l above
  made_here l above j = elim (lists_origin a (l ∷ above) j) [
    | inl e ↦ absurd (no_cons e)
    | inr i ↦ let n = made_named m i.owner (l ∷ above) i.member i.made in
        let is : l ∷ above ≡ n.level ∷ i.owner = n.is in
        let same : i.owner ≡ above = cc in
        let level : n.level ≡ l = cc in
        record {
          there = subst (λ (w : UnitPath). IsOneOf units w) same i.there;
          place = i.place;
          member = i.member;
          stands = subst (λ (w : UnitPath). Stands (names_at m w) i.place i.member) same i.stands;
          made = subst (λ (w : UnitPath). MakesUnit m w i.member (l ∷ above)) same i.made;
          name = ap (λ (k : UnitLevel). k.name) (sym level) ∙ n.name;
        }
  ]

  -- the unit above one of them is one of them
  pub above_listed : (l : UnitLevel) (above : UnitPath) → IsOneOf units (l ∷ above) → IsOneOf units above
  above_listed l above j = (made_here l above j).there

  -- two of one name in one unit are one
  pub one_named : AreOnce m → (l k : UnitLevel) (above : UnitPath) → IsOneOf units (l ∷ above) → IsOneOf units (k
      ∷ above) → l.name ≡ k.name → l ∷ above ≡ k ∷ above
  one_named o l k above i j e =
      let p = made_here l above i in
      let q = made_here k above j in
      let place : p.place ≡ q.place = (apart_names o above).apart p.place q.place p.member q.member p.stands q.stands
      (sym p.name ∙ (e ∙ q.name)) in
      let member : p.member ≡ q.member = stands_one (names_at m above) q.place p.member q.member
      (subst (λ (n : ℕ). Stands (names_at m above) n p.member) place p.stands) q.stands in
      makes_one q.member (subst (λ (g : NamedMember). MakesUnit m above g (l ∷ above)) member p.made) q.made

  made_listed : (u v : UnitPath) (x n : ℕ) (k : MemberKind) → is_inner k ≡ true → kind_at m u x ≡ Some k
      → NameEnds m n u x (Some k) (Some v) → IsOneOf units u → IsOneOf units v
  made_listed u v x n k own e d j =
      let g = named_so m u x (name_at m u x) refl e in
      let b = named_back (names_at m u) x g.0 g.1 in
      let leads : NameLeads m [] u x (Some k) (Reaches v) = ends_gives [] d (sym e) (none_followed m n) in
      lists_closed a u v b.0.place g.0 j b.0.stands (record {
        inner = subst (λ (k : MemberKind). is_inner k ≡ true) (sym g.2) own;
        leads = subst (λ (y : ℕ). NameLeads m [] u y (Some g.0.kind) (Reaches v)) (sym b.1)
            (subst (λ (k : MemberKind). NameLeads m [] u x (Some k) (Reaches v)) (sym g.2) leads);
      })

  start_listed : (start : PathStart) (u w : UnitPath) → IsOneOf units u → start_of start u ≡ Some w → IsOneOf units w
  start_listed Here u w j e = subst (λ (w : UnitPath). IsOneOf units w) (same_Some _ _ e) j
  start_listed Main u w j e =
      subst (λ (w : UnitPath). IsOneOf units w) (same_Some _ _ e) (one_here units 0 [] (main_first a))
  start_listed Owner [] w j e = cc
  start_listed Owner (l ∷ above) w j e =
      subst (λ (w : UnitPath). IsOneOf units w) (same_Some _ _ e) (above_listed l above j)

  mutual
    pub ends_listed : {n x : ℕ} {u : UnitPath} {k : Option MemberKind} {o : Option UnitPath} → NameEnds m n u x k o
        → kind_at m u x ≡ k → IsOneOf units u → (v : UnitPath) → o ≡ Some v → IsOneOf units v
    ends_listed {x = x} {u = u} (inner {b = b} {a = s}) e j v q = made_listed u v x 0 (Inner b s) refl e
        (subst (λ (o : Option UnitPath). NameEnds m 0 u x (Some (Inner b s)) o) q inner) j
    ends_listed {x = x} {u = u} (clones {n = n} {p = p} r h) e j v q = made_listed u v x (suc n) (Clone p) refl e
        (subst (λ (o : Option UnitPath). NameEnds m (suc n) u x (Some (Clone p)) o) q (clones r h)) j
    ends_listed (clones_none r) e j v q = cc
    ends_listed {u = u} (embeds {p = p} r) e j v q = runs_listed r (λ w i. start_listed p.start u w j i) v q
    ends_listed (no_unit h) e j v q = cc
    ends_listed absent e j v q = cc

    runs_listed : {n : ℕ} {s o : Option UnitPath} {xs : List ℕ} → NamesEnd m n s xs o
        → ((w : UnitPath) → s ≡ Some w → IsOneOf units w) → (v : UnitPath) → o ≡ Some v → IsOneOf units v
    runs_listed nowhere f v q = cc
    runs_listed (arrives {u = u}) f v q = subst (λ (w : UnitPath). IsOneOf units w) (same_Some _ _ q) (f u refl)
    runs_listed (on {u = u} n k w d r e) f v q =
        let j = ends_listed d refl (f u refl) w refl in
        runs_listed r (λ z i. subst (λ (w : UnitPath). IsOneOf units w) (same_Some _ _ i) j) v q
    runs_listed (stops d) f v q = cc
