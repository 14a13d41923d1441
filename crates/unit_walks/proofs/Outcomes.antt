-- What names lead to, by the numbers of the units.
use Rattle.std.proofs.Common.{◌≡◌, ◌<◌, ◌≤◌, ◌+◌, ◌⊎◌, inl, inr, ℕ, Bool, true, false, List, [], ◌∷◌, Option, Some, None, option_map, unwrap_or, length, get_or, refl, sym, ◌∙◌, ap, subst, arith}
use Rattle.std.proofs.lemmas.Bool.{cases_eq}
use Rattle.std.proofs.lemmas.Option.{same_Some}
use Rattle.std.specs.HashMap.{get, HashMap}
use Rattle.ar_base.specs.Lists.{Stands, IsOneOf, AreDifferent}
use Rattle.ar_base.specs.Numbers.{NameId}
use Rattle.ar_base.specs.NumbersInside.{UnitId}
use Rattle.ar_base.proofs.Standing.{stands_one, stands_within, stands_get, along_back, one_here, at_most}
use Rattle.class_table.specs.Members.{NamedMember}
use Rattle.hierarchy.specs.Models.{RootedModel}
use Rattle.hierarchy.specs.Units.{UnitPath, UnitLevel, body_of, names_at, name_at}
use Rattle.hierarchy.specs.Listing.{AreUnits}
use Rattle.hierarchy.specs.Tie.{IsOwner, of_main, of_unit, IsNameOfUnit}
use Rattle.hierarchy.specs.Walks.{NameLeads, no_unit, absent}
use Rattle.hierarchy.specs.Walks as leads
use Rattle.unit_walks.specs.Forms.{AreOnce, may_be_unit, only_units, same_pair}
use Rattle.unit_walks.specs.Tables.{table_paths, Above, IsWalkTable, EntryMeans, EndsAt}
use Rattle.unit_walks.specs.Walking.{IsRun, IsNameKnown}
use Rattle.unit_walks.specs.Growing.{Tied}
use Rattle.unit_walks.specs.Settling.{IsLed, IsLedBy, kept_walk_at, AreOutcomes, KeepsAnswer, AreChildrenTo, AreNumberedChildren, IsUnitNumber, IsSettledTo, SettlesUnit}
use Rattle.unit_walks.specs.declared.tables.Table.{Table}
use Rattle.unit_walks.specs.declared.tables.Known.{Known}
use Rattle.unit_walks.specs.declared.tables.Known.TheVariants as c
use Rattle.unit_walks.specs.declared.growing.Node.{Node}
use Rattle.unit_walks.specs.declared.settling.Walks.{Walks}
use Rattle.unit_walks.specs.declared.settling.Led.{Led}
use Rattle.unit_walks.specs.declared.settling.Led.TheVariants as led
use Rattle.unit_walks.proofs.LookUps.{named_first, units_there}
use Rattle.unit_walks.proofs.Stepping.{unitless}
use Rattle.unit_walks.proofs.TableSteps.{extends_both, extends_none, pair_apart}
use Rattle.unit_walks.proofs.Listed.{one_named, ends_listed}
use Rattle.unit_walks.proofs.Fronts.{leads_to, leads_nowhere, none_endless}

none_some : {A P : Type 0} {c : A} → None ≡ Some c → P
none_some e = cc

-- Numbers

pub children_none : {S : Type 0} (units : List UnitPath) (children : HashMap (ℕ × ℕ) UnitId S)
    → ((q : ℕ × ℕ) → get same_pair children q ≡ None) → AreChildrenTo units 0 children
children_none units children h = record {
  right = λ a x id e. none_some (sym (h (a, x)) ∙ e);
  all = λ a n l above b p q. absurd (omega (arith, b));
}

no_more : (above : UnitPath) (l : UnitLevel) → [] ≡ l ∷ above → ⊥
no_more above l e = cc

-- the main block has no unit above it
pub children_main : {S : Type 0} (units : List UnitPath) (n : ℕ) (children : HashMap (ℕ × ℕ) UnitId S)
    → Stands units n [] → AreChildrenTo units n children → AreChildrenTo units (n + 1) children
children_main units n children s w = record {
  right = w.right;
  all = λ a k l above b p q. elim (at_most k n b) [
    | inl i ↦ w.all a k l above i p q
    | inr e ↦ absurd (no_more above l (stands_one units n [] (l ∷ above) s
        (subst (λ (k : ℕ). Stands units k (l ∷ above)) e q)))
  ];
}

pub children_more : {S : Type 0} (units : List UnitPath) (n owner x : ℕ) (id : UnitId) (l : UnitLevel)
    (above : UnitPath) (old new : HashMap (ℕ × ℕ) UnitId S) → AreDifferent units → id.n ≡ n → Stands units n (l ∷ above)
    → Stands units owner above → x ≡ l.name → get same_pair new (owner, x) ≡ Some id
    → ((q : ℕ × ℕ) → same_pair (owner, x) q ≡ false → get same_pair new q ≡ get same_pair old q)
    → AreChildrenTo units n old → AreChildrenTo units (n + 1) new
children_more units n owner x id l above old new apart e s t named here other w = record {
  right = λ a y k h. right a y k h (cases_eq a owner) (cases_eq y x);
  all = λ a j k up b p q. elim (at_most j n b) [
    | inl i ↦ let r = w.all a j k up i p q in kept a k.name r.0 r.1 (cases_eq a owner) (cases_eq k.name x)
    | inr i ↦ last a j k up i p q
  ];
}
  where
    apart_key : (a y : ℕ) → ((a ≡ owner) × (y ≡ x) → ⊥) → get same_pair new (a, y) ≡ get same_pair old (a, y)
    apart_key a y d = other (a, y) (pair_apart owner x a y d)

    here_at : (a y : ℕ) → a ≡ owner → y ≡ x → get same_pair new (a, y) ≡ Some id
    here_at a y i j = subst (λ (a : ℕ). get same_pair new (a, y) ≡ Some id) (sym i)
        (subst (λ (y : ℕ). get same_pair new (owner, y) ≡ Some id) (sym j) here)

    right : (a y : ℕ) (k : UnitId) → get same_pair new (a, y) ≡ Some k → (a ≡ owner) ⊎ (a ≡ owner → ⊥)
        → (y ≡ x) ⊎ (y ≡ x → ⊥)
        → (l : UnitLevel) × (above : UnitPath) × Stands units a above × Stands units k.n (l ∷ above) × (l.name ≡ y)
    right a y k h (inl i) (inl j) =
        let z : id ≡ k = same_Some _ _ (sym (here_at a y i j) ∙ h) in
        let number : n ≡ k.n = sym e ∙ ap (λ (k : UnitId). k.n) z in (
          l,
          above,
          subst (λ (a : ℕ). Stands units a above) (sym i) t,
          subst (λ (n : ℕ). Stands units n (l ∷ above)) number s,
          sym named ∙ sym j,
        )
    right a y k h (inl i) (inr j) = w.right a y k (sym (apart_key a y (λ z. j z.1)) ∙ h)
    right a y k h (inr i) j = w.right a y k (sym (apart_key a y (λ z. i z.0)) ∙ h)

    kept : (a y : ℕ) (k : UnitId) → get same_pair old (a, y) ≡ Some k → (a ≡ owner) ⊎ (a ≡ owner → ⊥)
        → (y ≡ x) ⊎ (y ≡ x → ⊥) → (k : UnitId) × (get same_pair new (a, y) ≡ Some k)
    kept a y k h (inl i) (inl j) = (id, here_at a y i j)
    kept a y k h (inl i) (inr j) = (k, apart_key a y (λ z. j z.1) ∙ h)
    kept a y k h (inr i) j = (k, apart_key a y (λ z. i z.0) ∙ h)

    last : (a j : ℕ) (k : UnitLevel) (up : UnitPath) → j ≡ n → Stands units a up → Stands units j (k ∷ up)
        → (id : UnitId) × (get same_pair new (a, k.name) ≡ Some id)
    last a j k up i p q =
        let is : k ∷ up ≡ l ∷ above = stands_one units n (k ∷ up) (l ∷ above)
        (subst (λ (j : ℕ). Stands units j (k ∷ up)) i q) s in
        let level : k ≡ l = cc in
        let same : up ≡ above = cc in
        let number : a ≡ owner = apart.one a owner above (subst (λ (u : UnitPath). Stands units a u) same p) t in
        (id, here_at a k.name number (ap (λ (l : UnitLevel). l.name) level ∙ sym named))

-- the outline of a unit with one above it
pub outline_some : (units : List UnitPath) (u : UnitPath) (o : Option UnitId) (name : NameId) (id : UnitId)
    → IsOwner units u o → IsNameOfUnit u name → o ≡ Some id
    → (l : UnitLevel) × (above : UnitPath) × (u ≡ l ∷ above) × Stands units id.n above × (name.n ≡ l.name)
outline_some units u o name id of_main q e = cc
outline_some units u o name id (of_unit {l = l} {above = above} {id = k} s) q e =
    let same : k ≡ id = cc in (l, above, refl, subst (λ (k : UnitId). Stands units k.n above) same s, q)

pub outline_none : (units : List UnitPath) (u : UnitPath) (o : Option UnitId) → IsOwner units u o → o ≡ None → u ≡ []
outline_none units u o of_main e = refl
outline_none units u o (of_unit s) e = cc

-- what the table has above a unit
pub above_none : (paths : List UnitPath) (u : UnitPath) (o : Option ℕ) → Above paths u o → o ≡ None → u ≡ []
above_none paths [] o h e = refl
above_none paths (l ∷ above) o (n, i, h) e = none_some (sym e ∙ i)

pub above_some : (paths : List UnitPath) (u : UnitPath) (o : Option ℕ) (k : ℕ) → Above paths u o → o ≡ Some k
    → (l : UnitLevel) × (above : UnitPath) × (u ≡ l ∷ above) × Stands paths k above
above_some paths [] o k h e = none_some (sym h ∙ e)
above_some paths (l ∷ above) o k (n, i, h) e =
    (l, above, refl, subst (λ (n : ℕ). Stands paths n above) (same_Some _ _ (sym i ∙ e)) h)

-- the number of a unit is that which is found by the unit above it
pub child_found : {S : Type 0} (m : RootedModel) (units : List UnitPath) (children : HashMap (ℕ × ℕ) UnitId S)
    (l : UnitLevel) (above : UnitPath) (a x : ℕ) (o : Option UnitId) → AreOnce m → AreUnits m units
    → AreNumberedChildren units children → IsOneOf units (l ∷ above) → Stands units a above → x ≡ l.name
    → o ≡ get same_pair children (a, x) → IsUnitNumber units (l ∷ above) o
child_found m units children l above a x None once are w j s e h =
    let within = stands_within units j.place (l ∷ above) j.stands in
    let r = w.all a j.place l above within s j.stands in
    none_some (h ∙ (ap (λ (x : ℕ). get same_pair children (a, x)) e ∙ r.1))
child_found m units children l above a x (Some id) once are w j s e h =
    let r = w.right a x id (sym h) in
    let same : r.1 ≡ above = stands_one units a r.1 above r.2 s in
    let found : Stands units id.n (r.0 ∷ above) =
    subst (λ (u : UnitPath). Stands units id.n (r.0 ∷ u)) same r.3 in
    subst (λ (u : UnitPath). Stands units id.n u)
    (one_named m units are once r.0 l above (one_here units id.n (r.0 ∷ above) found) j (r.4 ∙ e)) found

pub led_unit : (m : RootedModel) (units paths : List UnitPath) (u : UnitPath) (x k : ℕ) (id : UnitId)
    (d : EndsAt m paths u x k) → Stands units id.n d.path → IsLed m units u x (led.Unit id)
led_unit m units paths u x k id d s = (d.path, s, leads_to m paths u x k d)

pub ends_there : (m : RootedModel) (units paths : List UnitPath) (u : UnitPath) (x k : ℕ) → AreUnits m units
    → IsOneOf units u → (d : EndsAt m paths u x k) → IsOneOf units d.path
ends_there m units paths u x k are j d = ends_listed m units are d.ends refl j d.path refl

pub led_nowhere : (m : RootedModel) (units paths : List UnitPath) (a x : ℕ) (u : UnitPath)
    → EntryMeans m paths [] a u x c.Nothing → IsLed m units u x led.Nothing
led_nowhere m units paths a x u d = leads_nowhere m u x d

pub led_loops : (m : RootedModel) (units paths : List UnitPath) (a x : ℕ) (u : UnitPath)
    → EntryMeans m paths [] a u x c.Loops → IsLed m units u x led.Loops
led_loops m units paths a x u d = d.loops [] (none_endless m)

pub led_known : (m : RootedModel) (units : List UnitPath) (old new : Table) (a x : ℕ) (u : UnitPath) (k : Known)
    (r : Led) → IsNameKnown m old new a x k → Stands (table_paths old) a u
    → (IsWalkTable m [] new → EntryMeans m (table_paths new) [] a u x k → IsLed m units u x r) → IsLedBy m units old new u x r
led_known m units old new a x u k r i p f = record {
  run = record { table = i.table; extends = i.extends };
  is_led = f i.table (i.known u (i.extends.units a u p));
}

-- Answers that are kept

-- those of the first i names of the unit of number n, and of all units before it
pub record Settling (m : RootedModel) (units : List UnitPath) (n i : ℕ) (old new : Table) (w : Walks) : Type 0 where
  pub run : IsRun m old new
  pub settled : IsSettledTo m units n i w

pub settling_start : (m : RootedModel) (units : List UnitPath) (n i : ℕ) (t : Table) (w : Walks) → IsWalkTable m [] t
    → IsSettledTo m units n i w → Settling m units n i t t w
settling_start m units n i t w k s = record { run = record { table = k; extends = extends_none t }; settled = s }

pub settled_none : (m : RootedModel) (units : List UnitPath) (w : Walks) → ((k x : ℕ) → kept_walk_at w k x ≡ None)
    → IsSettledTo m units 0 0 w
settled_none m units w h = record {
  right = λ k x r u e p. none_some (sym (h k x) ∙ e);
  all = λ k j u g p q l. elim l [ inl l ↦ absurd (omega (arith, l)) | inr l ↦ absurd (omega (arith, l.1)) ];
}

pub settled_more : (m : RootedModel) (units : List UnitPath) (n i x : ℕ) (old new : Walks) (u : UnitPath)
    (g : NamedMember) (r : Led) → IsSettledTo m units n i old → KeepsAnswer old new n x r → IsLed m units u x r
    → Stands units n u
    → Stands (only_units (names_at m u)) i g → g.name ≡ x → IsSettledTo m units n (i + 1) new
settled_more m units n i x old new u g r w k d p q named =
    record { right = λ j y z v e s. right j y z v e s (cases_eq j n) (cases_eq y x); all = all }
  where
    here : (j y : ℕ) → j ≡ n → y ≡ x → kept_walk_at new j y ≡ Some r
    here j y e f = subst (λ j. kept_walk_at new j y ≡ Some r) (sym e) (subst (λ y. kept_walk_at new n y ≡ Some r) (sym f) k.here)

    right : (j y : ℕ) (z : Led) (v : UnitPath) → kept_walk_at new j y ≡ Some z → Stands units j v → (j ≡ n) ⊎ (j ≡ n → ⊥)
        → (y ≡ x) ⊎ (y ≡ x → ⊥) → IsLed m units v y z
    right j y z v e s (inl a) (inl b) =
        let same : u ≡ v = stands_one units n u v p (subst (λ j. Stands units j v) a s) in
        let is : r ≡ z = same_Some _ _ (sym (here j y a b) ∙ e) in
        subst (λ y. IsLed m units v y z) (sym b)
        (subst (λ v. IsLed m units v x z) same (subst (λ r. IsLed m units u x r) is d))
    right j y z v e s (inl a) (inr b) = w.right j y z v (sym (k.other j y (λ h. b h.1)) ∙ e) s
    right j y z v e s (inr a) b = w.right j y z v (sym (k.other j y (λ h. a h.0)) ∙ e) s

    before : (j l : ℕ) (v : UnitPath) (h : NamedMember) → Stands units j v → Stands (only_units (names_at m v)) l h
        → (j < n) ⊎ ((j ≡ n) × (l < i)) → (j ≡ n) ⊎ (j ≡ n → ⊥) → (h.name ≡ x) ⊎ (h.name ≡ x → ⊥)
        → (r : Led) × (kept_walk_at new j h.name ≡ Some r)
    before j l v h s t o (inl a) (inl b) = (r, here j h.name a b)
    before j l v h s t o (inl a) (inr b) = let z = w.all j l v h s t o in (z.0, k.other j h.name (λ y. b y.1) ∙ z.1)
    before j l v h s t o (inr a) b = let z = w.all j l v h s t o in (z.0, k.other j h.name (λ y. a y.0) ∙ z.1)

    last : (j l : ℕ) (v : UnitPath) (h : NamedMember) → Stands units j v → Stands (only_units (names_at m v)) l h
        → j ≡ n → l ≡ i → (r : Led) × (kept_walk_at new j h.name ≡ Some r)
    last j l v h s t a e =
        let same : u ≡ v = stands_one units n u v p (subst (λ j. Stands units j v) a s) in
        let at = subst (λ v. Stands (only_units (names_at m v)) l h) (sym same) t in
        let is : g ≡ h = stands_one (only_units (names_at m u)) i g h q
        (subst (λ l. Stands (only_units (names_at m u)) l h) e at) in
        (r, here j h.name a (ap (λ (g : NamedMember). g.name) (sym is) ∙ named))

    all : (j l : ℕ) (v : UnitPath) (h : NamedMember) → Stands units j v → Stands (only_units (names_at m v)) l h
        → (j < n) ⊎ ((j ≡ n) × (l < i + 1)) → (r : Led) × (kept_walk_at new j h.name ≡ Some r)
    all j l v h s t (inl o) = before j l v h s t (inl o) (cases_eq j n) (cases_eq h.name x)
    all j l v h s t (inr o) = elim (cases_eq l i) [
      | inl e ↦ last j l v h s t o.0 e
      | inr e ↦ before j l v h s t (inr (o.0, omega (arith, o.1, e))) (cases_eq j n) (cases_eq h.name x)
    ]

pub settling_more : (m : RootedModel) (units : List UnitPath) (n i x : ℕ) (first now next : Table) (old new : Walks)
    (u : UnitPath) (g : NamedMember) (r : Led) → Settling m units n i first now old
    → IsLedBy m units now next u x r → KeepsAnswer old new n x r → Stands units n u → Stands (only_units (names_at m u)) i g
    → g.name ≡ x → Settling m units n (i + 1) first next new
settling_more m units n i x first now next old new u g r w d k p q named = record {
  run = record { table = d.run.table; extends = extends_both w.run.extends d.run.extends };
  settled = settled_more m units n i x old new u g r w.settled k d.is_led p q named;
}

pub settled_unit : (m : RootedModel) (units : List UnitPath) (n i : ℕ) (u : UnitPath) (w : Walks) → Stands units n u
    → length (only_units (names_at m u)) ≤ i → IsSettledTo m units n i w → IsSettledTo m units (n + 1) 0 w
settled_unit m units n i u w p l s =
    record {
      right = s.right;
      all = λ k j v g q t o. elim o
          [ inl o ↦ go k j v g q t o (cases_eq k n) | inr o ↦ absurd (omega (arith, o.1)) ];
    }
  where
    inside : (k j : ℕ) (v : UnitPath) (g : NamedMember) → Stands units k v → Stands (only_units (names_at m v)) j g
        → k ≡ n → j < i
    inside k j v g q t e =
        let same : u ≡ v = stands_one units n u v p (subst (λ k. Stands units k v) e q) in
        let at = subst (λ v. Stands (only_units (names_at m v)) j g) (sym same) t in
        let h = stands_within (only_units (names_at m u)) j g at in omega arith

    go : (k j : ℕ) (v : UnitPath) (g : NamedMember) → Stands units k v → Stands (only_units (names_at m v)) j g
        → k < n + 1 → (k ≡ n) ⊎ (k ≡ n → ⊥) → (r : Led) × (kept_walk_at w k g.name ≡ Some r)
    go k j v g q t o (inl e) = s.all k j v g q t (inr (e, inside k j v g q t e))
    go k j v g q t o (inr e) = s.all k j v g q t (inl (omega arith))

pub settles_unit : (m : RootedModel) (units : List UnitPath) (n i : ℕ) (first now : Table) (u : UnitPath) (w : Walks)
    → Stands units n u → length (only_units (names_at m u)) ≤ i
    → Settling m units n i first now w → SettlesUnit m units (n + 1) first now w
settles_unit m units n i first now u w p l s =
    record { run = s.run; settled = settled_unit m units n i u w p l s.settled }

pub settling_next : (m : RootedModel) (units : List UnitPath) (n : ℕ) (first now next : Table) (old new : Walks)
    → Settling m units n 0 first now old → SettlesUnit m units (n + 1) now next new
    → Settling m units (n + 1) 0 first next new
settling_next m units n first now next old new w s = record {
  run = record { table = s.run.table; extends = extends_both w.run.extends s.run.extends };
  settled = s.settled;
}

-- a unit more of a loop
pub settled_step : (m : RootedModel) (units : List UnitPath) (first now next : Table) (nodes : List Node) (i n : ℕ)
    (z : Node) (old new : Walks) → i < length nodes → n ≡ i → Tied m units (table_paths first) units nodes
    → ((u : UnitPath) → Stands (table_paths now) (get_or nodes i z).unit u
    → (get_or nodes i z).outline.body.n ≡ body_of m u → Stands units n u
    → IsSettledTo m units n 0 old → SettlesUnit m units (n + 1) now next new)
    → Settling m units i 0 first now old → Settling m units (i + 1) 0 first next new
settled_step m units first now next nodes i n z old new l e t call w =
    let u = along_back units nodes t i (get_or nodes i z) (stands_get nodes i z l) in
    let at = subst (λ n. Stands units n u.0) (sym e) u.1 in
    let s = call u.0 (w.run.extends.units (get_or nodes i z).unit u.0 u.2.unit) u.2.outline.body at
    (subst (λ n. IsSettledTo m units n 0 old) (sym e) w.settled) in
    settling_next m units i first now next old new w (subst (λ n. SettlesUnit m units (n + 1) now next new) e s)

-- each name of each unit is answered
pub outcomes : (m : RootedModel) (units : List UnitPath) (n : ℕ) (w : Walks) → length units ≤ n
    → IsSettledTo m units n 0 w → AreOutcomes m units w
outcomes m units n w l s = record { each = λ k x u p. go k x u p (kept_walk_at w k x) refl }
  where
    kinds : (k x : ℕ) (u : UnitPath) → Stands units k u → kept_walk_at w k x ≡ None → (g : NamedMember)
        → name_at m u x ≡ Some g → (b : Bool) → may_be_unit g.kind ≡ b → NameLeads m [] u x (Some g.kind) leads.Nothing
    kinds k x u p e g h false f = no_unit (unitless g.kind f)
    kinds k x u p e g h true f =
        let a = named_first (names_at m u) x g h in
        let b = units_there (names_at m u) a.0 g a.1 f in
        let r = s.all k b.0 u g p b.1 (inl (let z = stands_within units k u p in omega arith)) in
        none_some (sym e ∙ ap (kept_walk_at w k) (sym a.2) ∙ r.1)

    none : (k x : ℕ) (u : UnitPath) → Stands units k u → kept_walk_at w k x ≡ None → (o : Option NamedMember)
        → name_at m u x ≡ o → NameLeads m [] u x (option_map (λ (g : NamedMember). g.kind) o) leads.Nothing
    none k x u p e None h = absent
    none k x u p e (Some g) h = kinds k x u p e g h (may_be_unit g.kind) refl

    go : (k x : ℕ) (u : UnitPath) → Stands units k u → (o : Option Led) → kept_walk_at w k x ≡ o
        → IsLed m units u x (unwrap_or o led.Nothing)
    go k x u p (Some r) e = s.right k x r u e p
    go k x u p None e = none k x u p e (name_at m u x) refl
