-- What look-ups in a tree answer.
use Rattle.std.proofs.Common.{◌≡◌, ℕ, ◌+◌, ◌<◌, ◌≤◌, ◌⊎◌, inl, inr, Bool, true, List, [], ◌∷◌, ◌++◌, length, drop, slice_index_or, Option, Some, None, option_map, refl, sym, ◌∙◌, ap, subst, arith, rules, Fits, w32}
use Rattle.std.specs.Option.{option_or}
use Rattle.std.proofs.lemmas.List.{drop_more, drop_all}
use Rattle.std.specs.List.Sorted.{IsNonDecreasingBy}
use Rattle.ar_base.specs.Lists.{Stands, Along}
use Rattle.ar_base.specs.Numbers.{NameId}
use Rattle.ar_base.specs.NumbersInside.{UnitId}
use Rattle.ar_base.proofs.Standing.{stands_one, stands_within, stands_get, stands_some, along_on, along_back, along_length}
use Rattle.ar_base.proofs.Items.{last_one}
use Rattle.ar_syntax.specs.declared.paths.PathStart.{PathStart}
use Rattle.ar_syntax.specs.declared.paths.PathStart.TheVariants.{Owner}
use Rattle.class_table.specs.Members.{NamedMember, MemberKind, Inner, Clone, Alias, Variable, Parameter, Kept, Event, Observer}
use Rattle.hierarchy.specs.Models.{RootedModel}
use Rattle.hierarchy.specs.ModelsInside.{KeepsTextRules}
use Rattle.hierarchy.specs.Units.{UnitPath, Thing, name_at, kind_at, start_of, numbers}
use Rattle.hierarchy.specs.Walks.{Reaches, NameLeads, NamesLead, IsUnitAt, IsThingAt, absent, on, arrives}
use Rattle.hierarchy.specs.WalksInside.{LeadsFrom}
use Rattle.hierarchy.specs.Listing.{AreUnits, unit, is_inner, things_in}
use Rattle.hierarchy.specs.Tie.{IsOwner, of_main, of_unit, IsUnitNode, is_alias, entry_in, IsTreeOf, AnswersUnit, AnswersThing, IsThingNode}
use Rattle.hierarchy.specs.Finding.{unit_number, StartsAt, IsStep, FindsNode, HasOwner}
use Rattle.hierarchy.specs.declared.tree.UnitNode.{UnitNode}
use Rattle.hierarchy.specs.declared.tree.MemNode.{MemNode}
use Rattle.hierarchy.specs.declared.tree.Tree.{Tree}
use Rattle.hierarchy.proofs.Outcomes.{leads_same, walks_same, unit_of_reaches}
use Rattle.hierarchy.proofs.Apart.{units_different}
use Rattle.hierarchy.proofs.Things.{flat_origin, flat_rises, flat_one, thing_unit, listed_has, has_listed}
use Rattle.std.specs.List.{flat_map}

-- Starts

-- the main block is the first unit
pub main_first : {m : RootedModel} {units : List UnitPath} → AreUnits m units → Stands units 0 []
main_first (unit d) = refl

-- above a unit is what its node says
pub owner_starts : (units : List UnitPath) (u : UnitPath) (o : Option UnitId) → IsOwner units u o
    → StartsAt units (start_of Owner u) (unit_number o)
owner_starts units [] None of_main = refl
owner_starts units (l ∷ above) (Some id) (of_unit s) = (id.n, refl, s)
owner_starts units [] (Some id) h = elim h [ ]
owner_starts units (l ∷ above) None h = elim h [ ]

-- Steps

-- what a name that leads to a unit is
pub leads_kind : {m : RootedModel} {u v : UnitPath} {x : ℕ} (o : Option MemberKind) → NameLeads m [] u x o (Reaches v)
    → (k : MemberKind) × (o ≡ Some k) × ((is_inner k ≡ true) ⊎ (is_alias k ≡ true))
leads_kind None h = elim h [ ]
leads_kind (Some (Inner b from)) h = (Inner b from, refl, inl refl)
leads_kind (Some (Clone p)) h = (Clone p, refl, inl refl)
leads_kind (Some (Alias p)) h = (Alias p, refl, inr refl)
leads_kind (Some (Variable t ss)) h = elim h [ ]
leads_kind (Some (Parameter t e)) h = elim h [ ]
leads_kind (Some Kept) h = elim h [ ]
leads_kind (Some Event) h = elim h [ ]
leads_kind (Some (Observer t e)) h = elim h [ ]

-- the member that gives a name of this kind
pub named_so : (m : RootedModel) (u : UnitPath) (x : ℕ) {k : MemberKind} (o : Option NamedMember) → name_at m u x ≡ o
    → option_map (λ (g : NamedMember). g.kind) o ≡ Some k → (g : NamedMember) × (name_at m u x ≡ Some g) × (g.kind ≡ k)
named_so m u x None e q = cc
named_so m u x (Some g) e q = (g, e, cc)

module _ {m : RootedModel} {units : List UnitPath} {u : UnitPath} {d : UnitNode} (is : IsUnitNode m units u d) where
  -- the numbers under a name are those of the units to which it leads
  module _ (x : ℕ) where
    step_found : (a b : Option ℕ) → entry_in d.inner.items x ≡ a → entry_in d.aliases.items x ≡ b → (n : ℕ)
        → option_or a b ≡ Some n → (w : UnitPath) × Stands units n w × LeadsFrom m u x (Reaches w)
    step_found (Some k) b e f n h =
        let q : k ≡ n = cc in let r = is.inner.found x n (e ∙ ap (λ (z : ℕ). Some z) q) in (r.0, r.1, r.2.leads)
    step_found None b e f n h = let r = is.aliases.found x n (f ∙ h) in (r.0, r.1, r.2.leads)

    step_absent : (a b : Option ℕ) → entry_in d.inner.items x ≡ a → entry_in d.aliases.items x ≡ b
        → option_or a b ≡ None → (w : UnitPath) → LeadsFrom m u x (Reaches w) → ⊥
    step_absent (Some k) b e f h w l = cc
    step_absent None b e f h w l =
        let k = leads_kind (kind_at m u x) l in
        let g = named_so m u x (name_at m u x) refl k.1 in
        elim k.2 [
          | inl i ↦ is.inner.absent x w e (record { given = g.0; is = g.1; passes = ap is_inner g.2 ∙ i; leads = l })
          | inr i ↦ is.aliases.absent x w (f ∙ h)
              (record { given = g.0; is = g.1; passes = ap is_alias g.2 ∙ i; leads = l })
        ]

    pub step_to : (answer : Option UnitId) → IsStep d x answer → (n : ℕ) → unit_number answer ≡ Some n
        → (w : UnitPath) × Stands units n w × LeadsFrom m u x (Reaches w)
    step_to answer s n h = step_found (entry_in d.inner.items x) (entry_in d.aliases.items x) refl refl n
        (sym (s is.inner.ordered is.aliases.ordered) ∙ h)

    pub step_nowhere : (answer : Option UnitId) → IsStep d x answer → unit_number answer ≡ None → (w : UnitPath)
        → LeadsFrom m u x (Reaches w) → ⊥
    step_nowhere answer s h = step_absent (entry_in d.inner.items x) (entry_in d.aliases.items x) refl refl
        (sym (s is.inner.ordered is.aliases.ordered) ∙ h)

-- Walks

-- the walk from the unit u along all names goes on from v along the rest, and back
pub record GoesOn (m : RootedModel) (start : Option UnitPath) (names : List ℕ) (v : UnitPath) (rest : List ℕ) : Type
    0 where
  pub forth : (t : UnitPath) → NamesLead m [] start names (Reaches t) → NamesLead m [] (Some v) rest (Reaches t)
  pub back : (t : UnitPath) → NamesLead m [] (Some v) rest (Reaches t) → NamesLead m [] start names (Reaches t)

pub goes_start : {m : RootedModel} {start : Option UnitPath} {names : List ℕ} (v : UnitPath) → start ≡ Some v
    → GoesOn m start names v names
goes_start {m = m} {names = names} v e = record {
  forth = λ t h. subst (λ (s : Option UnitPath). NamesLead m [] s names (Reaches t)) e h;
  back = λ t h. subst (λ (s : Option UnitPath). NamesLead m [] s names (Reaches t)) (sym e) h;
}

walk_next : {m : RootedModel} {v w : UnitPath} {x : ℕ} {xs : List ℕ} {t : UnitPath} → LeadsFrom m v x (Reaches w)
    → NamesLead m [] (Some v) (x ∷ xs) (Reaches t) → NamesLead m [] (Some w) xs (Reaches t)
walk_next {m = m} {xs = xs} {t = t} l (on v' n g) =
    subst (λ (z : UnitPath). NamesLead m [] (Some z) xs (Reaches t)) (unit_of_reaches (leads_same n l)) g

pub goes_next : {m : RootedModel} {start : Option UnitPath} {names : List ℕ} {v w : UnitPath} {x : ℕ} {xs : List ℕ}
    → LeadsFrom m v x (Reaches w) → GoesOn m start names v (x ∷ xs) → GoesOn m start names w xs
goes_next {w = w} l g = record { forth = λ t h. walk_next l (g.forth t h); back = λ t h. g.back t (on w l h) }

walk_stuck : {m : RootedModel} {v : UnitPath} {x : ℕ} {xs : List ℕ} {t : UnitPath}
    → ((w : UnitPath) → LeadsFrom m v x (Reaches w) → ⊥) → NamesLead m [] (Some v) (x ∷ xs) (Reaches t) → ⊥
walk_stuck n (on v' l g) = n v' l

pub goes_nowhere : {m : RootedModel} {start : Option UnitPath} {names : List ℕ} {v : UnitPath} {x : ℕ} {xs : List ℕ}
    → ((w : UnitPath) → LeadsFrom m v x (Reaches w) → ⊥) → GoesOn m start names v (x ∷ xs) → (t : UnitPath)
    → NamesLead m [] start names (Reaches t) → ⊥
goes_nowhere n g t h = walk_stuck n (g.forth t h)

pub goes_end : {m : RootedModel} {start : Option UnitPath} {names : List ℕ} {v : UnitPath} → GoesOn m start names v []
    → NamesLead m [] start names (Reaches v)
goes_end {v = v} g = g.back v arrives

pub starts_nowhere : {m : RootedModel} {names : List ℕ} (start : Option UnitPath) → start ≡ None → (t : UnitPath)
    → NamesLead m [] start names (Reaches t) → ⊥
starts_nowhere None e t h = elim h [ ]
starts_nowhere (Some u) e t h = cc

-- Things

module _ {m : RootedModel} {units : List UnitPath} (k : KeepsTextRules m) (are : AreUnits m units)
    (test : MemberKind → Bool) where
  -- the things of these units
  abbrev pub all_things : List Thing
  all_things = flat_map (things_in test m) units

  module _ {A : Type 0} (node : A → MemNode) (IsIt : Thing → A → Type 0)
      (is_node : (t : Thing) (d : A) → IsIt t d → (g : NamedMember) × IsThingNode m units t g (node d)) (nodes : List A)
      (along : Along IsIt all_things nodes) where
    -- the nodes go by units
    pub nodes_rise : IsNonDecreasingBy (λ d. (node d).unit.n) nodes
    nodes_rise i j d l h =
        let p = stands_get nodes i d (omega (arith, l, h)) in let q = stands_get nodes j d h in
        let s = along_back all_things nodes along i (slice_index_or nodes i d) p in
        let t = along_back all_things nodes along j (slice_index_or nodes j d) q in
        let o = flat_rises (things_in test m) units i j s.0 t.0 l s.1 t.1 in
        let a = (is_node s.0 (slice_index_or nodes i d) s.2).1.unit in let b = (is_node t.0 (slice_index_or nodes j d) t.2).1.unit in
        let e = (units_different k are).one (node (slice_index_or nodes i d)).unit.n o.first.from s.0.unit a
        (subst (λ (z : UnitPath). Stands units o.first.from z)
        (sym (thing_unit m test o.first.item s.0 o.first.is_one)) o.first.stands) in
        let f = (units_different k are).one (node (slice_index_or nodes j d)).unit.n o.second.from t.0.unit b
        (subst (λ (z : UnitPath). Stands units o.second.from z)
        (sym (thing_unit m test o.second.item t.0 o.second.is_one)) o.second.stands) in
        let w = o.order in omega (arith, e, f, w)

    -- what is found is named, and what is named is found
    pub answers_node : (u : UnitPath) (start : PathStart) (front : List ℕ) (x n : ℕ) (v : UnitPath) → Stands units n v
        → IsUnitAt m u start front v → (answer : Option ℕ) → FindsNode node nodes n x answer
        → AnswersThing m all_things test u start (front ++ x ∷ []) answer
    answers_node u start front x n v s reaches None f = λ t h.
        let e = last_one h.leads.front front t.name x (sym h.leads.split) in
        let r : t.unit ≡ v = unit_of_reaches
        (walks_same (subst (λ (z : List ℕ). IsUnitAt m u start z t.unit) e.0 h.leads.reaches) reaches) in
        let st : Stands units n t.unit = subst (λ (z : UnitPath). Stands units n z) (sym r) s in
        let o = flat_one (things_in test m) units t.unit t (record { place = n; stands = st })
        (has_listed m test t h.has) in
        let a = along_on all_things nodes along o.place t o.stands in
        let i = (is_node t a.0 a.2).1 in
        f o.place a.0 a.1 ((units_different k are).one (node a.0).unit.n n t.unit i.unit st) (i.name ∙ e.1)
    answers_node u start front x n v s reaches (Some p) (d, at, un, nn) =
        let a = along_back all_things nodes along p d at in
        let i = (is_node a.0 d a.2).1 in
        let r : a.0.unit ≡ v = stands_one units n a.0.unit v (subst (λ (z : ℕ). Stands units z a.0.unit) un i.unit) s in
        let name : a.0.name ≡ x = sym i.name ∙ nn in
        let o = flat_origin (things_in test m) units p a.0 a.1 in (
          a.0,
          a.1,
          record {
            leads = record {
              front = front;
              split = ap (λ (z : ℕ). front ++ z ∷ []) (sym name);
              reaches = subst (λ (z : UnitPath). IsUnitAt m u start front z) (sym r) reaches;
            };
            has = listed_has m test k o.item a.0 o.is_one;
          },
        )

    -- the same of names that lead to a unit and then to a name
    pub thing_answer : {u : UnitPath} {start : PathStart} {names : List ℕ} {n x : ℕ}
        → HasOwner m units u start names n x → (answer : Option ℕ) → FindsNode node nodes n x answer
        → AnswersThing m all_things test u start names answer
    thing_answer {u = u} {start = start} {n = n} {x = x} o answer f =
        subst (λ (names : List ℕ). AnswersThing m all_things test u start names answer) (sym o.split)
        (answers_node u start o.front x n o.unit o.stands o.reaches answer f)

  -- where the front leads to no unit, nothing is named
  pub answers_nowhere : (u : UnitPath) (start : PathStart) (front : List ℕ) (x : ℕ)
      → ((v : UnitPath) → IsUnitAt m u start front v → ⊥) → (t : Thing) → IsThingAt m test u start (front ++ x ∷ []) t
      → ⊥
  answers_nowhere u start front x n t h =
      let e = last_one h.leads.front front t.name x (sym h.leads.split) in
      n t.unit (subst (λ (z : List ℕ). IsUnitAt m u start z t.unit) e.0 h.leads.reaches)

-- no names name nothing
pub answers_empty : {m : RootedModel} (test : MemberKind → Bool) (u : UnitPath) (start : PathStart) (names : List ℕ)
    → names ≡ [] → (t : Thing) → IsThingAt m test u start names t → ⊥
answers_empty test u start names e t h = no h.leads.front (sym h.leads.split ∙ e)
  where
    no : (front : List ℕ) → front ++ t.name ∷ [] ≡ [] → ⊥
    no [] q = cc
    no (x ∷ xs) q = cc

-- the unit above, as the node of a unit says
pub owner_at : {m : RootedModel} {units : List UnitPath} {tree : Tree} {n : ℕ} {u : UnitPath} → IsTreeOf m units tree
    → Stands units n u → n < length tree.units.items → (d : UnitNode) → d ≡ slice_index_or tree.units.items n d
    → StartsAt units (start_of Owner u) (unit_number d.owner)
owner_at {units = units} {tree = tree} {n = n} {u = u} t s h d q =
    let a = along_on units tree.units.items t.units_are n u s in
    let e : a.0 ≡ slice_index_or tree.units.items n d =
    stands_one tree.units.items n a.0 (slice_index_or tree.units.items n d) a.1
    (stands_get tree.units.items n d h) in
    owner_starts units u d.owner (subst (λ (z : UnitNode). IsOwner units u z.owner) (e ∙ sym q) a.2.owner)

-- the node of a unit
pub node_at : {m : RootedModel} {units : List UnitPath} {tree : Tree} {n : ℕ} {u : UnitPath} → IsTreeOf m units tree
    → Stands units n u → n < length tree.units.items → (d : UnitNode) → d ≡ slice_index_or tree.units.items n d
    → IsUnitNode m units u d
node_at {m = m} {units = units} {tree = tree} {n = n} {u = u} t s h d q =
    let a = along_on units tree.units.items t.units_are n u s in
    let e : a.0 ≡ slice_index_or tree.units.items n d =
    stands_one tree.units.items n a.0 (slice_index_or tree.units.items n d) a.1
    (stands_get tree.units.items n d h) in
    subst (λ (z : UnitNode). IsUnitNode m units u z) (e ∙ sym q) a.2

-- a unit's number is that of a node
pub unit_within : {m : RootedModel} {units : List UnitPath} {tree : Tree} {n : ℕ} {u : UnitPath} → IsTreeOf m units tree
    → Stands units n u → n < length tree.units.items
unit_within {units = units} {tree = tree} {n = n} {u = u} t s = let w = stands_within units n u s in let e = along_length units tree.units.items t.units_are in omega (arith, w, e)

-- Answers

pub starts_none : (units : List UnitPath) (o : Option UnitPath) (a : Option UnitId) → a ≡ None
    → StartsAt units o (unit_number a) → o ≡ None
starts_none units None a e h = refl
starts_none units (Some v) None e h = cc h.1
starts_none units (Some v) (Some id) e h = cc e

pub starts_some : (units : List UnitPath) (o : Option UnitPath) (a : Option UnitId) (id : UnitId) → a ≡ Some id
    → StartsAt units o (unit_number a) → (v : UnitPath) × (o ≡ Some v) × Stands units id.n v
starts_some units None None id e h = cc e
starts_some units None (Some i) id e h = cc h
starts_some units (Some v) None id e h = cc e
starts_some units (Some v) (Some i) id e h =
    let q : i.n ≡ h.0 = cc h.1 in let r : i.n ≡ id.n = ap (λ (z : UnitId). z.n) (some_same e) in
    (v, refl, subst (λ (n : ℕ). Stands units n v) (sym q ∙ r) h.2)
  where
    some_same : {A : Type 0} {a b : A} → Some a ≡ Some b → a ≡ b
    some_same e = cc

pub unit_none : (m : RootedModel) (units : List UnitPath) (u : UnitPath) (start : PathStart) (names : List ℕ)
    (a : Option UnitId) → a ≡ None → ((v : UnitPath) → IsUnitAt m u start names v → ⊥)
    → AnswersUnit m units u start names (unit_number a)
unit_none m units u start names None e h = h
unit_none m units u start names (Some id) e h = cc e

pub unit_some : (m : RootedModel) (units : List UnitPath) (u : UnitPath) (start : PathStart) (names : List ℕ)
    (v : UnitPath) (a : Option UnitId) (n : ℕ) → unit_number a ≡ Some n → Stands units n v → IsUnitAt m u start names v
    → AnswersUnit m units u start names (unit_number a)
unit_some m units u start names v None n e s h = cc e
unit_some m units u start names v (Some id) n e s h = (v, subst (λ (k : ℕ). Stands units k v) (let q : n ≡ id.n = cc in q) s, h)

-- some unit has each number below the count of nodes
pub some_unit : {m : RootedModel} {units : List UnitPath} {tree : Tree} {n : ℕ} → IsTreeOf m units tree
    → n < length tree.units.items → (u : UnitPath) × Stands units n u
some_unit {units = units} {tree = tree} {n = n} t h = let e = along_length units tree.units.items t.units_are in stands_some units n (omega (arith, e, h))

-- the names that are left begin with the next
pub drop_next : (names : List NameId) (i : ℕ) (d : NameId) → i < length names
    → numbers (drop i names) ≡ (slice_index_or names i d).n ∷ numbers (drop (i + 1) names)
drop_next names i d h = ap numbers (drop_more names i d h)

-- one name further
pub goes_next_at : {m : RootedModel} {start : Option UnitPath} {all : List ℕ} {v w : UnitPath} (names : List NameId)
    (i : ℕ) (d : NameId) → i < length names → LeadsFrom m v (slice_index_or names i d).n (Reaches w)
    → GoesOn m start all v (numbers (drop i names)) → GoesOn m start all w (numbers (drop (i + 1) names))
goes_next_at {m = m} {start = start} {all = all} {v = v} names i d h l g =
    goes_next l (subst (λ (xs : List ℕ). GoesOn m start all v xs) (drop_next names i d h) g)

-- the next name leads to no unit
pub goes_nowhere_at : {m : RootedModel} {start : Option UnitPath} {all : List ℕ} {v : UnitPath} (names : List NameId)
    (i : ℕ) (d : NameId) → i < length names
    → ((w : UnitPath) → LeadsFrom m v (slice_index_or names i d).n (Reaches w) → ⊥)
    → GoesOn m start all v (numbers (drop i names)) → (t : UnitPath) → NamesLead m [] start all (Reaches t) → ⊥
goes_nowhere_at {m = m} {start = start} {all = all} {v = v} names i d h n g =
    goes_nowhere n (subst (λ (xs : List ℕ). GoesOn m start all v xs) (drop_next names i d h) g)

drop_past : (names : List NameId) (i : ℕ) → length names ≤ i → drop i names ≡ []
drop_past names i h = drop_all i names h

-- no name is left
pub goes_end_at : {m : RootedModel} {start : Option UnitPath} {all : List ℕ} {v : UnitPath} (names : List NameId)
    (i : ℕ) → length names ≤ i → GoesOn m start all v (numbers (drop i names)) → NamesLead m [] start all (Reaches v)
goes_end_at {m = m} {start = start} {all = all} {v = v} names i h g =
    goes_end (subst (λ (xs : List ℕ). GoesOn m start all v xs) (ap numbers (drop_past names i h)) g)

-- a place in a list of fewer than 2^32 items fits 32 bits
pub place_fits : (n l : ℕ) → n < l → l < 4294967296 → Fits w32 n
place_fits n l h k = let w : n < 4294967296 = omega (arith, h, k) in search (rules, w)
