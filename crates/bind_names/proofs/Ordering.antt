-- The parameters that values may name stand before the things that have these values.
use Rattle.std.proofs.Common.{◌≡◌, ℕ, zero, suc, ◌+◌, ◌<◌, ◌≤◌, ◌⊎◌, inl, inr, Bool, true, false, if◌then◌else◌, List, [], ◌∷◌, length, Option, Some, None, refl, sym, ◌∙◌, ap, subst, arith}
use Rattle.std.specs.Option.{option_or}
use Rattle.std.specs.List.{flat_map}
use Rattle.ar_base.specs.Lists.{Stands}
use Rattle.ar_base.proofs.Standing.{stands_none, stands_one, stands_split, stands_left, stands_right, stands_within}
use Rattle.ar_base.proofs.Comparing.{side}
use Rattle.ar_syntax.specs.declared.members.Setting.{Setting}
use Rattle.ar_syntax.specs.declared.paths.Path.{Path}
use Rattle.class_table.specs.Members.{Site, NamedMember, MemberKind, Variable, Parameter, Kept, Inner, Clone, Alias, Event, Observer}
use Rattle.hierarchy.specs.Models.{RootedModel}
use Rattle.hierarchy.specs.ModelsInside.{KeepsTextRules}
use Rattle.hierarchy.specs.Units.{UnitLevel, UnitPath, Thing, name_at, kind_at}
use Rattle.hierarchy.specs.Walks.{Finds, PassesTest, thing, is_parameter}
use Rattle.hierarchy.specs.Listing.{AreUnits, ListsUnits, Insides, unit, none, makes, passes, parameters, things_in}
use Rattle.hierarchy.specs.Settings.{Attribute, TargetWord, Named, settings_at, setting_for, set_by, outermost, target_in, target_of, declared_in, in_force, in_force_by, in_force_given, same_target}
use Rattle.hierarchy.proofs.Apart.{units_different}
use Rattle.hierarchy.proofs.Places.{made_named}
use Rattle.hierarchy.proofs.Things.{flat_rises, thing_unit}
use Rattle.source_meaning.specs.Means.{is_valued}
use Rattle.source_meaning.specs.Tested as s
use Rattle.bind_scopes.proofs.NamedPaths.{kind_one, name_only, symbol_alone}
use Rattle.bind_scopes.proofs.Order.{listed_order, one_earlier, not_earlier}
use Rattle.bind_scopes.proofs.Siting.{force_own}
use Rattle.bind_names.specs.Values.{NamesBefore}

-- Units above others

-- the unit v stands somewhere above the unit w
data IsAbove : UnitPath → UnitPath → Type 0 where
  next : {l : UnitLevel} {above : UnitPath} → IsAbove above (l ∷ above)
  further : {l : UnitLevel} {v above : UnitPath} → IsAbove v above → IsAbove v (l ∷ above)

-- a unit that stands before place j
abbrev Before : List UnitPath → ℕ → UnitPath → Type 0
Before us j v = (i : ℕ) × (i < j) × Stands us i v

mutual
  -- each unit but the first stands behind the one above it
  lists_owner : {m : RootedModel} {u : UnitPath} {us : List UnitPath} → ListsUnits m true u us
      → (j : ℕ) (l : UnitLevel) (above : UnitPath) → Stands us j (l ∷ above) → (l ∷ above ≡ u) ⊎ Before us j above
  lists_owner {u = u} (unit {us = us} d) zero l above s = inl (sym (stands_one (u ∷ us) 0 u (l ∷ above) refl s))
  lists_owner {u = u} (unit {us = us} d) (suc j) l above s = elim (insides_owner d j l above s) [
    | inl e ↦ inr (0, omega arith, subst (λ (z : UnitPath). Stands (u ∷ us) 0 z) (sym e) refl)
    | inr b ↦ (let h = b.1 in inr (suc b.0, omega (arith, h), b.2))
  ]

  insides_owner : {m : RootedModel} {u : UnitPath} {gs : List NamedMember} {us : List UnitPath} → Insides m true u gs us
      → (j : ℕ) (l : UnitLevel) (above : UnitPath) → Stands us j (l ∷ above)
      → (above ≡ u) ⊎ Before us j above
  insides_owner none j l above s = absurd (stands_none j (l ∷ above) s)
  insides_owner {m = m} {u = u} (makes {v = v} {g = g} {us = us} {vs = vs} k d ds) j l above s =
      elim (stands_split us vs j (l ∷ above) s) [
        | inl p ↦ elim (lists_owner d j l above p) [
          | inl e ↦ (let n = made_named m u v g k in let q : l ∷ above ≡ n.level ∷ u = e ∙ n.is in let r : above ≡ u = cc in inl r)
          | inr b ↦ inr (b.0, b.1, stands_left us vs b.0 above b.2)
        ]
        | inr p ↦ elim (insides_owner ds p.0 l above p.2) [
          | inl e ↦ inl e
          | inr b ↦ (let h = b.1 in let q = p.1 in inr (length us + b.0, omega (arith, h, q), stands_right us vs b.0 (length us + b.0) above refl b.2))
        ]
      ]
  insides_owner (passes n ds) j l above s = insides_owner ds j l above s

-- the unit above stands before the unit
above_before : {m : RootedModel} {units : List UnitPath} → AreUnits m units → {v w : UnitPath} → IsAbove v w → (j : ℕ)
    → Stands units j w → Before units j v
above_before are (next {l = l} {above = above}) j s = elim (lists_owner are j l above s) [ inl e ↦ cc | inr b ↦ b ]
above_before {units = units} are (further {l = l} {v = v} {above = above} h) j s = elim (lists_owner are j l above s) [
  | inl e ↦ cc
  | inr b ↦ (let w = above_before are h b.0 b.2 in let p = b.1 in let q = w.1 in (w.0, omega (arith, p, q), w.2))
]

-- things of a unit that stands before another stand before those of the other
module _ {m : RootedModel} {units : List UnitPath} (kept : KeepsTextRules m) (are : AreUnits m units)
    (test : MemberKind → Bool) where
  comes_before : (k n i j : ℕ) (t r : Thing) → Stands (flat_map (things_in test m) units) n t
      → Stands (flat_map (things_in test m) units) k r → Stands units j t.unit → Stands units i r.unit → i < j → k < n
  comes_before k n i j t r p q a b l = elim (side n k) [
    | inr h ↦ h
    | inl h ↦
        let o = flat_rises (things_in test m) units n k t r h p q in
        let first = subst (λ (z : UnitPath). Stands units o.first.from z)
        (sym (thing_unit m test o.first.item t o.first.is_one)) o.first.stands in
        let second = subst (λ (z : UnitPath). Stands units o.second.from z)
        (sym (thing_unit m test o.second.item r o.second.is_one)) o.second.stands in
        let d = units_different kept are in
        let e = d.one o.first.from j t.unit first a in
        let f = d.one o.second.from i r.unit second b in
        let w = o.order in
        absurd (omega (arith, e, f, w, l))
  ]

-- Values that are set

-- a setting is read in the unit that holds it
set_unit : (u : UnitPath) (site : Site) (k : ℕ) (xs : List Setting) (target : List TargetWord) (a : Attribute)
    → setting_for u site k xs target ≡ Some a → a.unit ≡ u
set_unit u site k [] target a e = cc
set_unit u site k (x ∷ xs) target a e =
    by (same_target (target_of x) target) e (λ f. set_unit u site (k + 1) xs target a f)
  where
    by : (b : Bool) → (if b then Some (record { unit = u; site = site; setting = Some k; value = x.value })
        else setting_for u site (k + 1) xs target) ≡ Some a
        → (setting_for u site (k + 1) xs target ≡ Some a → a.unit ≡ u) → a.unit ≡ u
    by true f more =
        let one : Attribute = record { unit = u; site = site; setting = Some k; value = x.value } in
        let q : one ≡ a = cc in ap (λ (z : Attribute). z.unit) (sym q)
    by false f more = more f

module _ (m : RootedModel) where
  by_unit : (u : UnitPath) (o : Option Site) (target : List TargetWord) (a : Attribute) → set_by m u o target ≡ Some a
      → a.unit ≡ u
  by_unit u None target a e = cc
  by_unit u (Some site) target a e = set_unit u site 0 (settings_at m site) target a e

  -- what is set from outside stands in a unit above
  outer_above : (u : UnitPath) (target : List TargetWord) (a : Attribute) → outermost m u target ≡ Some a
      → IsAbove a.unit u
  outer_above [] target a e = cc
  outer_above (l ∷ above) target a e =
      by (outermost m above (Named l.name ∷ target)) refl e (λ f. outer_above above (Named l.name ∷ target) a f)
    where
      by : (o : Option Attribute) → outermost m above (Named l.name ∷ target) ≡ o
          → option_or o (set_by m above l.set_at target) ≡ Some a
          → (outermost m above (Named l.name ∷ target) ≡ Some a → IsAbove a.unit above) → IsAbove a.unit (l ∷ above)
      by None i f more = subst (λ (z : UnitPath). IsAbove z (l ∷ above)) (sym (by_unit above l.set_at target a f)) next
      by (Some b) i f more = further (more (i ∙ f))

  own_none : (u : UnitPath) (site : Site) (k : MemberKind) (a : Attribute) → is_valued k ≡ true
      → declared_in u site k ≡ Some a → a.setting ≡ None
  own_none u site (Parameter t v) a h e =
      let one : Attribute = record { unit = u; site = site; setting = None; value = v } in
      let q : one ≡ a = cc in ap (λ (z : Attribute). z.setting) (sym q)
  own_none u site (Variable f ss) a h e = cc
  own_none u site Kept a h e = cc
  own_none u site Event a h e = cc
  own_none u site (Observer t v) a h e = cc
  own_none u site (Inner b o) a h e = cc
  own_none u site (Clone p) a h e = cc
  own_none u site (Alias p) a h e = cc

  -- the value of a parameter that stands in a setting stands in a unit above
  force_above : (t : Thing) (a : Attribute) (j : ℕ) → in_force m t ≡ Some a → a.setting ≡ Some j → PassesTest m
      is_valued t → IsAbove a.unit t.unit
  force_above t a j e set h = by (name_at m t.unit t.name) refl e
    where
      last : (g : NamedMember) → is_valued g.kind ≡ true → (words : Option (List TargetWord))
          → in_force_by m t.unit words (declared_in t.unit g.site g.kind) ≡ Some a → IsAbove a.unit t.unit
      last g v None f = cc
      last g v (Some words) f = either (outermost m t.unit words) refl f
        where
          either : (o : Option Attribute) → outermost m t.unit words ≡ o
              → option_or o (declared_in t.unit g.site g.kind) ≡ Some a → IsAbove a.unit t.unit
          either None i k = let q = own_none t.unit g.site g.kind a v k in cc
          either (Some b) i k = outer_above t.unit words a (i ∙ k)

      by : (o : Option NamedMember) → name_at m t.unit t.name ≡ o → in_force_given m t.unit o ≡ Some a
          → IsAbove a.unit t.unit
      by None n f = cc
      by (Some g) n f =
          let q : kind_at m t.unit t.name ≡ Some g.kind = (let i = n in rw i refl) in
          last g (ap is_valued (kind_one q h.is) ∙ h.passes) (target_in g.name g.kind) f

-- Names in values

module _ {m : RootedModel} {units : List UnitPath} (kept : KeepsTextRules m) (are : AreUnits m units) where
  -- the parameters that the value of a parameter may name stand before it
  pub parameter_before : (t : Thing) (n j : ℕ) → Stands (parameters m units) n t → Stands units j t.unit
      → PassesTest m is_valued t → NamesBefore m units t n
  parameter_before t n j at unit_at valued =
      record { before = λ a p r k force may f st. by a p r k force f st a.setting refl may }
    where
      by : (a : Attribute) (p : Path) (r : Thing) (k : ℕ) → in_force m t ≡ Some a → Finds m is_valued a.unit p r
          → Stands (parameters m units) k r
          → (o : Option ℕ) → a.setting ≡ o → s.MayName m a.unit (s.scope_of t.name o) p → k < n
      by a p r k force f st None e (s.symbol i y) = absurd (symbol_alone y f.leads f.has.is)
      by a p r k force f st None e (s.earlier x name h o) = elim (side n k) [ inr l ↦ l | inl l ↦ absurd (no l) ]
        where
          own : a.unit ≡ t.unit
          own = (force_own m t a force e).2

          is : r ≡ thing a.unit x
          is = name_only x name.here name.single r f.leads

          there : Stands (parameters m units) k (thing t.unit x)
          there = subst (λ (z : Thing). Stands (parameters m units) k z) (is ∙ ap (λ (z : UnitPath). thing z x) own) st

          first : s.IsEarlierMember m t.unit x t.name
          first = subst (λ (z : UnitPath). s.IsEarlierMember m z x t.name) own o

          no : n ≤ k → ⊥
          no l = elim (side k n) [
            | inl g ↦
                let i : k ≡ n = omega (arith, g, l) in
                let w = stands_one (parameters m units) n (thing t.unit x) t
                (subst (λ (z : ℕ). Stands (parameters m units) z (thing t.unit x)) i there) at in
                not_earlier m is_parameter kept t.unit t.name
                (subst (λ (z : ℕ). s.IsEarlierMember m t.unit z t.name) (ap (λ (z : Thing). z.name) w) first)
            | inr g ↦ one_earlier m is_parameter kept t.unit x t.name first
                (listed_order m is_parameter kept are n k t (thing t.unit x) g at there refl)
          ]
      by a p r k force f st (Some i) e (s.symbol y z) = absurd (symbol_alone z f.leads f.has.is)
      by a p r k force f st (Some i) e (s.own x name h) =
          let is = name_only x name.here name.single r f.leads in
          let b = above_before are (force_above m t a i force e valued) j unit_at in
          let here = subst (λ (z : UnitPath). Stands units b.0 z) (sym (ap (λ (z : Thing). z.unit) is)) b.2 in
          comes_before kept are is_parameter k n b.0 j t r at st unit_at here b.1

-- all parameters stand in their list
pub all_before : (m : RootedModel) (units : List UnitPath) (t : Thing)
    → NamesBefore m units t (length (parameters m units))
all_before m units t = record { before = λ a p r k force may f st. stands_within (parameters m units) k r st }
