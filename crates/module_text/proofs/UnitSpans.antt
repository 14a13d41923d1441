-- The ranges of the units of a tree have the events of the units and of those within them.
use Rattle.std.proofs.Common.{◌≡◌, ◌⊎◌, inl, inr, ℕ, zero, suc, ◌+◌, ◌<◌, ◌^◌, true, List, [], ◌∷◌, ◌++◌, length, Option, Some, refl, sym, ◌∙◌, ap, subst, arith}
use Rattle.ar_base.specs.Lists.{Stands, AreDifferent}
use Rattle.ar_base.specs.NumbersInside.{UnitId}
use Rattle.ar_base.proofs.Standing.{stands_one, stands_none, stands_within, stands_some, stands_split, stands_left, stands_right, along_on, along_back, along_length}
use Rattle.class_table.specs.Members.{NamedMember}
use Rattle.hierarchy.specs.Models.{RootedModel}
use Rattle.hierarchy.specs.Units.{UnitLevel, UnitPath}
use Rattle.hierarchy.specs.Listing.{ListsUnits, Insides, unit, none, makes, passes, events}
use Rattle.hierarchy.specs.Tie.{IsOwner, of_main, of_unit, IsTreeOf}
use Rattle.hierarchy.specs.declared.tree.MemNode.{MemNode}
use Rattle.hierarchy.specs.declared.tree.UnitNode.{UnitNode}
use Rattle.hierarchy.specs.declared.tree.Tree.{Tree}
use Rattle.hierarchy.proofs.Apart.{units_different}
use Rattle.hierarchy.proofs.Places.{made_named}
use Rattle.gate_modules.specs.declared.ranges.Range.{Range}
use Rattle.module_text.specs.Ranges.{HasEvent, AreRangesOf}
use Rattle.module_text.specs.Spans.{StandBehindOwners, IsOver, here, above, IsOf}
use Rattle.module_text.proofs.DepthFirst.{events_together}
use Rattle.module_text.proofs.Spanning.{AreSpans}

-- a unit of the list that stands before place i
abbrev pub IsBefore : List UnitPath → ℕ → UnitPath → Type 0
IsBefore us i w = (j : ℕ) × (j < i) × Stands us j w

mutual
  -- the unit above a unit stands before it
  pub lists_before : {m : RootedModel} {u : UnitPath} {us : List UnitPath} → ListsUnits m true u us
      → (i : ℕ) (l : UnitLevel) (w : UnitPath) → Stands us i (l ∷ w) → (l ∷ w ≡ u) ⊎ IsBefore us i w
  lists_before {u = u} (unit {us = us} d) zero l w s = inl (sym (stands_one (u ∷ us) 0 u (l ∷ w) refl s))
  lists_before {u = u} (unit {us = us} d) (suc i) l w s = elim (insides_before d i l w s) [
    | inl e ↦ inr (0, omega arith, subst (λ (z : UnitPath). Stands (u ∷ us) 0 z) (sym e) refl)
    | inr b ↦ inr (suc b.0, (let h = b.1 in omega (arith, h)), b.2)
  ]

  insides_before : {m : RootedModel} {u : UnitPath} {gs : List NamedMember} {us : List UnitPath}
      → Insides m true u gs us → (i : ℕ) (l : UnitLevel) (w : UnitPath) → Stands us i (l ∷ w)
      → (w ≡ u) ⊎ IsBefore us i w
  insides_before none i l w s = absurd (stands_none i (l ∷ w) s)
  insides_before {m = m} {u = u} (makes {v = v} {g = g} {us = us} {vs = vs} k d ds) i l w s =
      elim (stands_split us vs i (l ∷ w) s) [
        | inl p ↦ elim (lists_before d i l w p) [
          | inl e ↦ (let n = made_named m u v g k in let q : l ∷ w ≡ n.level ∷ u = e ∙ n.is in inl cc)
          | inr b ↦ inr (b.0, b.1, stands_left us vs b.0 w b.2)
        ]
        | inr p ↦ elim (insides_before ds p.0 l w p.2) [
          | inl e ↦ inl e
          | inr b ↦ inr (
            length us + b.0,
            (let h = b.1 in let q = p.1 in omega (arith, h, q)),
            stands_right us vs b.0 (length us + b.0) w refl b.2,
          )
        ]
      ]
  insides_before (passes n ds) i l w s = insides_before ds i l w s

first_unit : {m : RootedModel} {u : UnitPath} {us : List UnitPath} → ListsUnits m true u us → Stands us 0 u
first_unit (unit d) = refl

-- what the number of the unit above says
record IsOwned (units : List UnitPath) (w : UnitPath) (o : UnitId) : Type 0 where
  level : UnitLevel
  rest : UnitPath
  is : w ≡ level ∷ rest
  stands : Stands units o.n rest

owned : (units : List UnitPath) (w : UnitPath) (p : Option UnitId) (o : UnitId) → IsOwner units w p → p ≡ Some o
    → IsOwned units w o
owned units w p o of_main e = cc
owned units w p o (of_unit {l = l} {above = rest} {id = id} s) e =
    let q : id ≡ o = cc in
    record { level = l; rest = rest; is = refl; stands = subst (λ (z : UnitId). Stands units z.n rest) q s }

-- the number of the unit above a unit that is none of the main block's
record HasAbove (units : List UnitPath) (rest : UnitPath) (p : Option UnitId) : Type 0 where
  id : UnitId
  is : p ≡ Some id
  stands : Stands units id.n rest

has_above : (units : List UnitPath) (l : UnitLevel) (rest : UnitPath) (p : Option UnitId) → IsOwner units (l ∷ rest) p
    → HasAbove units rest p
has_above units l rest p (of_unit {id = id} s) = record { id = id; is = refl; stands = s }

module _ (m : RootedModel) (units : List UnitPath) (tree : Tree) (is : IsTreeOf m units tree) where
  abbrev nodes : List UnitNode
  nodes = tree.units.items

  different : AreDifferent units
  different = units_different is.table.kept is.are_units

  owner_of : (u : ℕ) (d : UnitNode) → Stands nodes u d → (w : UnitPath) × Stands units u w × IsOwner units w d.owner
  owner_of u d s = let b = along_back units nodes is.units_are u d s in (b.0, b.1, b.2.owner)

  pub are_below : StandBehindOwners nodes
  are_below = record {
    each = λ u d o s e. go u o (owner_of u d s).0 (owner_of u d s).1
        (owned units (owner_of u d s).0 d.owner o (owner_of u d s).2 e);
  }
    where
      go : (u : ℕ) (o : UnitId) (w : UnitPath) → Stands units u w → IsOwned units w o → o.n < u
      go u o w t n = elim (lists_before is.are_units u n.level n.rest
          (subst (λ (z : UnitPath). Stands units u z) n.is t)) [
            | inl e ↦ cc
            | inr b ↦ (let q : o.n ≡ b.0 = different.one o.n b.0 n.rest n.stands b.2 in let h = b.1 in omega (arith, q, h))
          ]

  -- a unit and one above it
  record IsWithin (k : ℕ) (w : UnitPath) : Type 0 where
    outer : UnitPath
    stands : Stands units k outer
    levels : List UnitLevel
    is_within : w ≡ levels ++ outer

  over_within : {k u : ℕ} → IsOver nodes k u → (w : UnitPath) → Stands units u w → IsWithin k w
  over_within (here t f) w s = record { outer = w; stands = s; levels = []; is_within = refl }
  over_within {k = k} {u = u} (above {d = d} {o = o} t f h) w s =
      let b = owner_of u d t in
      let n = owned units b.0 d.owner o b.2 f in
      let same : w ≡ n.level ∷ n.rest = stands_one units u w b.0 s b.1 ∙ n.is in
      let i = over_within h n.rest n.stands in
      record {
        outer = i.outer;
        stands = i.stands;
        levels = n.level ∷ i.levels;
        is_within = same ∙ ap (λ (z : UnitPath). n.level ∷ z) i.is_within;
      }

  no_main : (k : ℕ) → Stands units (suc k) [] → ⊥
  no_main k s = let e = different.one (suc k) 0 [] s (first_unit is.are_units) in omega (arith, e)

  within_over : (k : ℕ) (v : UnitPath) → Stands units (suc k) v → (levels : List UnitLevel) (u : ℕ)
      → Stands units u (levels ++ v) → IsOver nodes (suc k) u
  within_over k [] s levels u t = absurd (no_main k s)
  within_over k (l ∷ v) s [] u t =
      let same : u ≡ suc k = different.one u (suc k) (l ∷ v) t s in
      let a = along_on units nodes is.units_are (suc k) (l ∷ v) s in
      let o = has_above units l v a.0.owner a.2.owner in
      subst (λ (z : ℕ). IsOver nodes (suc k) z) (sym same) (here a.1 o.is)
  within_over k (l ∷ v) s (x ∷ xs) u t =
      let a = along_on units nodes is.units_are u (x ∷ (xs ++ (l ∷ v))) t in
      let o = has_above units x (xs ++ (l ∷ v)) a.0.owner a.2.owner in
      above a.1 o.is (within_over k (l ∷ v) s xs o.id.n o.stands)

  has_event : (k e : ℕ) → IsOf nodes tree.events.items k e → HasEvent m units k e
  has_event k e o =
      let b = along_back (events m units) tree.events.items is.events_are e o.event o.is_event in
      let w = over_within o.over b.0.unit b.2.node.unit in
      record {
        unit = w.outer;
        is_unit = w.stands;
        event = b.0;
        is_event = b.1;
        within = w.levels;
        is_within = w.is_within;
      }

  is_of : (k e : ℕ) → HasEvent m units (suc k) e → IsOf nodes tree.events.items (suc k) e
  is_of k e h =
      let a = along_on (events m units) tree.events.items is.events_are e h.event h.is_event in
      record {
        event = a.0;
        is_event = a.1;
        over = within_over k h.unit h.is_unit h.within a.0.unit.n
            (subst (λ (z : UnitPath). Stands units a.0.unit.n z) h.is_within a.2.node.unit);
      }

  pub spans_of_units : (ranges : List Range) → AreSpans nodes tree.events.items ranges → AreRangesOf m units ranges
  spans_of_units ranges spans = record {
    long =
        let l = along_length units nodes is.units_are in
        let f = stands_within units 0 [] (first_unit is.are_units) in
        let h = spans.long (omega (arith, l, f)) in
        omega (arith, h, l);
    each = λ k r s. let i = spans.each k r s in record {
      unit = i.unit;
      events = λ e. ((λ h. has_event (suc k) e ((i.has e).0 h)), (λ h. (i.has e).1 (is_of k e h)));
    };
  }

  -- the events of a unit and of those within it follow each other
  pub of_between : (k x y z : ℕ) → x < y → y < z → IsOf nodes tree.events.items (suc k) x
      → IsOf nodes tree.events.items (suc k) z → IsOf nodes tree.events.items (suc k) y
  of_between k x y z p q a c =
      let h = has_event (suc k) x a in
      let g = has_event (suc k) z c in
      let same : g.unit ≡ h.unit = stands_one units (suc k) g.unit h.unit g.is_unit h.is_unit in
      let last = stands_within (events m units) z g.event g.is_event in
      let t = stands_some (events m units) y (omega (arith, q, last)) in
      let under = events_together is.table.kept is.are_units h.unit h.event t.0 g.event x y z p q h.is_event t.1
      g.is_event
      (record { levels = h.within; is = h.is_within })
      (record { levels = g.within; is = g.is_within ∙ ap (λ w. g.within ++ w) same }) in
      is_of k y (record {
        unit = h.unit;
        is_unit = h.is_unit;
        event = t.0;
        is_event = t.1;
        within = under.levels;
        is_within = under.is;
      })

  pub known_unit : (n : ℕ) (d : MemNode) → Stands tree.events.items n d → d.unit.n < length nodes
  known_unit n d s =
      let b = along_back (events m units) tree.events.items is.events_are n d s in
      let w = stands_within units d.unit.n b.0.unit b.2.node.unit in
      let l = along_length units nodes is.units_are in
      omega (arith, w, l)

  pub some_units : 0 < length nodes
  some_units =
      let f = stands_within units 0 [] (first_unit is.are_units) in
      let l = along_length units nodes is.units_are in
      omega (arith, f, l)

  pub few_units : length nodes < 2 ^ 32
  few_units = let h = is.units_few in omega (arith, h)

  pub few_events : (n : ℕ) → n < length tree.events.items → n + 1 < 2 ^ 32
  few_events n l = let h = is.events_few in omega (arith, h, l)
