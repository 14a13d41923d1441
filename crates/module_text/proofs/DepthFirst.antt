-- In a list of units depth first, and so in the list of their events, what is within a unit stands together.
use Rattle.std.proofs.Common.{◌≡◌, ◌≤◌, ◌<◌, ◌+◌, ◌⊎◌, inl, inr, ℕ, zero, suc, Bool, true, List, [], ◌∷◌, ◌++◌, length, length-append, filter, refl, sym, ◌∙◌, ap, subst, append_assoc, arith}
use Rattle.std.proofs.lemmas.Bool.{cases_lt}
use Rattle.ar_base.specs.Lists.{Stands, IsOneOf}
use Rattle.ar_base.proofs.Standing.{stands_one, stands_none, stands_split, stands_within, stands_map_back, one_here, one_none}
use Rattle.class_table.specs.Members.{NamedMember, MemberKind}
use Rattle.hierarchy.specs.Models.{RootedModel}
use Rattle.hierarchy.specs.ModelsInside.{KeepsTextRules}
use Rattle.hierarchy.specs.Units.{UnitPath, Thing, names_at}
use Rattle.hierarchy.specs.Walks.{thing, is_event}
use Rattle.hierarchy.specs.Listing.{ListsUnits, Insides, MakesUnit, unit, none, makes, passes, things_in, events, AreUnits}
use Rattle.hierarchy.proofs.Apart.{units_different, members_apart}
use Rattle.hierarchy.proofs.Places.{AreApart, IsUnder, made_named, lists_under, apart_rest, two_members}

-- ---- units within units
pub under_through : {u v w : UnitPath} → IsUnder u v → IsUnder v w → IsUnder u w
under_through {u = u} i j = record {
  levels = j.levels ++ i.levels;
  is = j.is ∙ ap (λ z. j.levels ++ z) i.is
      ∙ sym (append_assoc j.levels i.levels u);
}

-- of two units round one, that with fewer levels is round the other
common : (xs ys us vs : UnitPath) → xs ++ us ≡ ys ++ vs → length us ≤ length vs → IsUnder us vs
common xs [] us vs e l = record { levels = xs; is = sym e }
common [] (y ∷ ys) us vs e l = let h = ap length e in let k = length-append ys vs in absurd (omega (arith, h, k, l))
common (x ∷ xs) (y ∷ ys) us vs e l = let r : xs ++ us ≡ ys ++ vs = cc in common xs ys us vs r l

pub round_both : {u v w : UnitPath} → IsUnder u w → IsUnder v w → length u ≤ length v → IsUnder u v
round_both {u = u} {v = v} i j l = common i.levels j.levels u v (sym i.is ∙ j.is) l

same_long : {u v : UnitPath} → IsUnder u v → length u ≡ length v → u ≡ v
same_long {u = u} {v = v} i e = by i.levels i.is
  where
    by : (ls : UnitPath) → v ≡ ls ++ u → u ≡ v
    by [] h = sym h
    by (x ∷ ls) h = let k = ap length h in let n = length-append ls u in absurd (omega (arith, k, n, e))

-- what the member makes stands within the unit, one level below it
made_under : (m : RootedModel) (u v w : UnitPath) (g : NamedMember) → MakesUnit m u g v → IsUnder v w → IsUnder u w
made_under m u v w g k i =
    let n = made_named m u v g k in
    under_through (record { levels = n.level ∷ []; is = n.is }) i

-- a unit within one that a member makes
record IsUnderMade (m : RootedModel) (u : UnitPath) (gs : List NamedMember) (w : UnitPath) : Type 0 where
  place : ℕ
  member : NamedMember
  stands : Stands gs place member
  made_unit : UnitPath
  made : MakesUnit m u member made_unit
  under : IsUnder made_unit w

insides_under : {m : RootedModel} {u : UnitPath} {gs : List NamedMember} {us : List UnitPath} → Insides m true u gs us
    → (w : UnitPath) → IsOneOf us w → IsUnderMade m u gs w
insides_under none w j = absurd (one_none w j)
insides_under (makes {v = v} {g = g} {us = us} {vs = vs} k d ds) w j = elim (stands_split us vs j.place w j.stands) [
  | inl p ↦ record {
    place = 0;
    member = g;
    stands = refl;
    made_unit = v;
    made = k;
    under = lists_under d w (one_here us j.place w p);
  }
  | inr p ↦ (let i = insides_under ds w (one_here vs p.0 w p.2) in
      record {
        place = suc i.place;
        member = i.member;
        stands = i.stands;
        made_unit = i.made_unit;
        made = i.made;
        under = i.under;
      })
]
insides_under (passes n ds) w j =
    let i = insides_under ds w j in
    record {
      place = suc i.place;
      member = i.member;
      stands = i.stands;
      made_unit = i.made_unit;
      made = i.made;
      under = i.under;
    }

under_unit : {m : RootedModel} {u : UnitPath} {gs : List NamedMember} {us : List UnitPath} → Insides m true u gs us
    → (w : UnitPath) → IsOneOf us w → IsUnder u w
under_unit {m = m} {u = u} d w j = let i = insides_under d w j in made_under m u i.made_unit w i.member i.made i.under

-- ---- what is within a unit stands together
pub record StandTogether (us : List UnitPath) : Type 0 where
  pub between : (v a b c : UnitPath) (i j l : ℕ) → i < j → j < l → Stands us i a → Stands us j b → Stands us l c
      → IsUnder v a → IsUnder v c → IsUnder v b

mutual
  lists_together : {m : RootedModel} {u : UnitPath} {us : List UnitPath} → ListsUnits m true u us
      → ((w : UnitPath) → AreApart (names_at m w)) → StandTogether us
  lists_together {m = m} {u = u} (unit {us = us} d) apart =
      record {
        between = λ v a b c i j l p q s t r x y. by (insides_together d apart (apart u)) v a b c i j l p q s t r
            x y;
      }
    where
      by : StandTogether us → (v a b c : UnitPath) (i j l : ℕ) → i < j → j < l → Stands (u ∷ us) i a
          → Stands (u ∷ us) j b → Stands (u ∷ us) l c → IsUnder v a → IsUnder v c → IsUnder v b
      by h v a b c i zero l p q s t r x y = absurd (omega (arith, p))
      by h v a b c i (suc j) zero p q s t r x y = absurd (omega (arith, q))
      by h v a b c zero (suc j) (suc l) p q s t r x y =
          let first : u ≡ a = stands_one (u ∷ us) 0 u a refl s in
          under_through (subst (IsUnder v) (sym first) x) (under_unit d b (one_here us j b t))
      by h v a b c (suc i) (suc j) (suc l) p q s t r x y =
          h.between v a b c i j l (omega (arith, p)) (omega (arith, q)) s t r x y

  insides_together : {m : RootedModel} {u : UnitPath} {gs : List NamedMember} {us : List UnitPath}
      → Insides m true u gs us → ((w : UnitPath) → AreApart (names_at m w)) → AreApart gs → StandTogether us
  insides_together none apart far = record { between = λ v a b c i j l p q s t r x y. absurd (stands_none i a s) }
  insides_together {m = m} {u = u} (makes {v = made} {g = g} {us = us} {vs = vs} k d ds) apart far = record {
    between = λ v a b c i j l p q s t r x y.
        by (lists_together d apart) (insides_together ds apart (apart_rest far)) (under_unit (makes k d ds)) v a b c i j
        l p q
        (stands_split us vs i a s) t (stands_split us vs j b t) (stands_split us vs l c r) x y;
  }
    where
      -- a unit round one of the first and one of the others is round u
      across : (v a c : UnitPath) → IsOneOf us a → IsOneOf vs c → IsUnder v a → IsUnder v c → IsUnder v u
      across v a c ia ic x y = elim (cases_lt (length u) (length v)) [
        | inl l ↦ absurd (
            let e = insides_under ds c ic in
            let n = made_named m u made g k in
            let o = made_named m u e.made_unit e.member e.made in
            let ln = ap length n.is in
            let lo = ap length o.is in
            let one = two_members m u made e.made_unit v g e.member k e.made
            (round_both (lists_under d a ia) x (omega (arith, l, ln)))
            (round_both e.under y (omega (arith, l, lo))) in
            let h = far.apart 0 (suc e.place) g e.member refl e.stands one in
            omega (arith, h)
            )
        | inr l ↦ round_both x (made_under m u made a g k (lists_under d a ia)) l
      ]

      by : StandTogether us → StandTogether vs → ((w : UnitPath) → IsOneOf (us ++ vs) w → IsUnder u w)
          → (v a b c : UnitPath) (i j l : ℕ) → i < j → j < l
          → Stands us i a ⊎ ((n : ℕ) × (i ≡ length us + n) × Stands vs n a) → Stands (us ++ vs) j b
          → Stands us j b ⊎ ((n : ℕ) × (j ≡ length us + n) × Stands vs n b)
          → Stands us l c ⊎ ((n : ℕ) × (l ≡ length us + n) × Stands vs n c) → IsUnder v a → IsUnder v c
          → IsUnder v b
      by f h under v a b c i j l p q (inl s) whole (inl t) (inl r) x y = f.between v a b c i j l p q s t r x y
      by f h under v a b c i j l p q (inl s) whole (inr t) (inl r) x y = let w = stands_within us l c r in absurd (omega (arith, q, w, t.1))
      by f h under v a b c i j l p q (inl s) whole t (inr r) x y =
          under_through (across v a c (one_here us i a s) (one_here vs r.0 c r.2) x y)
          (under b (one_here (us ++ vs) j b whole))
      by f h under v a b c i j l p q (inr s) whole (inl t) r x y = let w = stands_within us j b t in absurd (omega (arith, p, w, s.1))
      by f h under v a b c i j l p q (inr s) whole (inr t) (inl r) x y = let w = stands_within us l c r in absurd (omega (arith, q, w, t.1))
      by f h under v a b c i j l p q (inr s) whole (inr t) (inr r) x y =
          h.between v a b c s.0 t.0 r.0 (omega (arith, p, s.1, t.1)) (omega (arith, q, t.1, r.1)) s.2 t.2 r.2 x y
  insides_together (passes n ds) apart far = insides_together ds apart (apart_rest far)

pub units_together : {m : RootedModel} {units : List UnitPath} → KeepsTextRules m → AreUnits m units
    → StandTogether units
units_together k d = lists_together d (members_apart k)

-- ---- events stand by their units
thing_unit : (m : RootedModel) (test : MemberKind → Bool) (u : UnitPath) (n : ℕ) (t : Thing)
    → Stands (things_in test m u) n t → u ≡ t.unit
thing_unit m test u n t s =
    let b = stands_map_back (λ (g : NamedMember). thing u g.name)
    (filter (λ (g : NamedMember). test g.kind) (names_at m u)) n t s in
    ap (λ (z : Thing). z.unit) b.2

-- the place of the unit of an event
record IsPlaced (us : List UnitPath) (t : Thing) : Type 0 where
  place : ℕ
  stands : Stands us place t.unit

placed : (m : RootedModel) (us : List UnitPath) (n : ℕ) (t : Thing) → Stands (events m us) n t → IsPlaced us t
placed m [] n t s = absurd (stands_none n t s)
placed m (u ∷ us) n t s = elim (stands_split (things_in is_event m u) (events m us) n t s) [
  | inl p ↦ record { place = 0; stands = subst (Stands (u ∷ us) 0) (thing_unit m is_event u n t p) refl }
  | inr p ↦ (let r = placed m us p.0 t p.2 in record { place = suc r.place; stands = r.stands })
]

-- two events, and the places of their units in the same order
record InOrder (us : List UnitPath) (s t : Thing) : Type 0 where
  first : ℕ
  second : ℕ
  order : first ≤ second
  first_stands : Stands us first s.unit
  second_stands : Stands us second t.unit

in_order : (m : RootedModel) (us : List UnitPath) (x y : ℕ) (s t : Thing) → x < y → Stands (events m us) x s
    → Stands (events m us) y t → InOrder us s t
in_order m [] x y s t l p q = absurd (stands_none x s p)
in_order m (u ∷ us) x y s t l p q =
    by (in_order m us) (stands_split (things_in is_event m u) (events m us) x s p)
    (stands_split (things_in is_event m u) (events m us) y t q)
  where
    at_first : (n : ℕ) (k : Thing) → Stands (things_in is_event m u) n k → Stands (u ∷ us) 0 k.unit
    at_first n k h = subst (Stands (u ∷ us) 0) (thing_unit m is_event u n k h) refl

    by : ((x y : ℕ) (s t : Thing) → x < y → Stands (events m us) x s → Stands (events m us) y t → InOrder us s t)
        → Stands (things_in is_event m u) x s
        ⊎ ((n : ℕ) × (x ≡ length (things_in is_event m u) + n) × Stands (events m us) n s)
        → Stands (things_in is_event m u) y t
        ⊎ ((n : ℕ) × (y ≡ length (things_in is_event m u) + n) × Stands (events m us) n t) → InOrder (u ∷ us) s t
    by ih (inl a) (inl b) = record {
      first = 0;
      second = 0;
      order = omega arith;
      first_stands = at_first x s a;
      second_stands = at_first y t b;
    }
    by ih (inl a) (inr b) = let r = placed m us b.0 t b.2 in record { first = 0; second = suc r.place; order = omega arith; first_stands = at_first x s a; second_stands = r.stands }
    by ih (inr a) (inl b) = let w = stands_within (things_in is_event m u) y t b in absurd (omega (arith, l, w, a.1))
    by ih (inr a) (inr b) =
        let r = ih a.0 b.0 s t (omega (arith, l, a.1, b.1)) a.2 b.2 in
        record { first = suc r.first; second = suc r.second; order = (let o = r.order in omega (arith, o)); first_stands = r.first_stands; second_stands = r.second_stands }

-- what is within a unit stands together among the events too
pub events_together : {m : RootedModel} {units : List UnitPath} → KeepsTextRules m → AreUnits m units
    → (v : UnitPath) (s t r : Thing) (x y z : ℕ) → x < y → y < z
    → Stands (events m units) x s → Stands (events m units) y t → Stands (events m units) z r → IsUnder v s.unit
    → IsUnder v r.unit → IsUnder v t.unit
events_together {m = m} {units = units} k d v s t r x y z p q sx sy sz a c =
    let one = in_order m units x y s t p sx sy in
    let two = in_order m units y z t r q sy sz in
    let same : one.second ≡ two.first =
    (units_different k d).one one.second two.first t.unit one.second_stands two.first_stands in
    by one.first one.second two.second one.order (let o = two.order in omega (arith, o, same)) one.first_stands one.second_stands two.second_stands (cases_lt one.first one.second) (cases_lt one.second two.second)
  where
    by : (i j l : ℕ) → i ≤ j → j ≤ l → Stands units i s.unit → Stands units j t.unit → Stands units l r.unit
        → (i < j) ⊎ (j ≤ i) → (j < l) ⊎ (l ≤ j) → IsUnder v t.unit
    by i j l e f si sj sl (inr g) h =
        let w : i ≡ j = omega (arith, e, g) in
        subst (IsUnder v) (stands_one units j s.unit t.unit (subst (λ n. Stands units n s.unit) w si) sj) a
    by i j l e f si sj sl (inl g) (inr h) =
        let w : l ≡ j = omega (arith, f, h) in
        subst (IsUnder v) (stands_one units j r.unit t.unit (subst (λ n. Stands units n r.unit) w sl) sj) c
    by i j l e f si sj sl (inl g) (inl h) = (units_together k d).between v s.unit t.unit r.unit i j l g h si sj sl a c
