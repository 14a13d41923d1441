-- What the names of a unit are, by its members.
use Rattle.std.proofs.Common.{◌≡◌, ◌==◌, ℕ, suc, ◌⊎◌, inl, inr, Bool, true, false, List, [], ◌∷◌, map, Option, Some, None, option_map, refl, sym, ◌∙◌, ap, subst}
use Rattle.std.specs.List.Sorted.{IsPermutation, IsNonDecreasingBy}
use Rattle.std.proofs.lemmas.List.Sorted.{Contains-permutation, IsPermutation-sym}
use Rattle.ar_base.specs.Lists.{Stands, IsOneOf}
use Rattle.ar_base.specs.Numbers.{NameId}
use Rattle.ar_base.specs.declared.places.Place.{Place}
use Rattle.ar_base.proofs.Standing.{stands_map, stands_map_back, one_none, one_cases, one_first, one_contains, contains_one, only_item}
use Rattle.ar_base.proofs.Truths.{not_both}
use Rattle.ar_syntax.specs.declared.members.Member.{Member, out-Member}
use Rattle.ar_syntax.specs.declared.members.Member.TheOpen as member
use Rattle.ar_syntax.specs.declared.members.Setting.{Setting}
use Rattle.ar_syntax.specs.declared.members.TypeForm.{TypeForm}
use Rattle.ar_syntax.specs.declared.members.TypeForm.TheVariants as form
use Rattle.class_table.specs.Declaring.{Declared, MemberForm, NamedType, DomainType, ClassType}
use Rattle.class_table.specs.Members.{Site, owned_at, names_of, names_of_form, NamedMember, MemberKind, Inner, Clone, Alias, Variable, type_named, declared_kind, all_named, member_kind_of}
use Rattle.class_table.specs.Rules.{l2, Misnames, declares, IsNoType, named}
use Rattle.class_table.specs.declared.tables.Owned.{Owned}
use Rattle.class_table.specs.declared.tables.Owned.TheVariants.{Plain, Nested}
use Rattle.hierarchy.specs.Models.{RootedModel}
use Rattle.hierarchy.specs.ModelsInside.{KeepsTextRules}
use Rattle.hierarchy.specs.Units.{UnitPath, members_at, names_at, name_at, kind_at}
use Rattle.hierarchy.specs.Walks.{Reaches}
use Rattle.hierarchy.specs.WalksInside.{LeadsFrom}
use Rattle.hierarchy.specs.Listing.{is_inner}
use Rattle.hierarchy.specs.Tie.{entry_in, AreNames, IsUnitIn, is_alias}
use Rattle.hierarchy.proofs.Apart.{members_apart, named_here, named_back}
use Rattle.hierarchy.proofs.Things.{flat_origin, flat_one}
use Rattle.hierarchy.proofs.Looking.{leads_kind}
use Rattle.hierarchy.proofs.Finding.{same_or_not}
use Rattle.unit_rules.specs.Naming.{NameEntry, AddsNames, instance_names, inner_form, inner_names, alias_form, alias_names, names_if, names_at_sites}
use Rattle.ar_syntax.specs.declared.paths.Path.{Path}
use Rattle.unit_rules.specs.Statements.{HasPath}
use Rattle.unit_rules.proofs.Adding.{adds_right, adds_all}

-- One item

none_there : {A : Type 0} {B : Type 0} (a : A) → IsOneOf [] a → B
none_there a o = absurd (one_none a o)

-- Declarations

-- a name of a declaration, with what it declares
declared_one : (s : Site) (kind : MemberKind) (names : List (NameId × Place)) (x : ℕ)
    → IsOneOf (map (λ (n : NameId × Place). n.0.n) names) x
    → (g : NamedMember) × IsOneOf (all_named s (Some kind) names) g × (g.name ≡ x) × (g.kind ≡ kind)
declared_one s kind names x o =
    let r = stands_map_back (λ (n : NameId × Place). n.0.n) names o.place x o.stands in
    let p = stands_map (λ (n : NameId × Place). record { name = n.0.n; at = n.1; kind = kind; site = s }) names o.place
    r.0 r.1 in
    (record { name = r.0.0.n; at = r.0.1; kind = kind; site = s }, record { place = o.place; stands = p }, r.2, refl)

-- what is declared so has a name of the declaration
declared_back : (s : Site) (kind : MemberKind) (names : List (NameId × Place)) (g : NamedMember)
    → IsOneOf (all_named s (Some kind) names) g
    → IsOneOf (map (λ (n : NameId × Place). n.0.n) names) g.name × (g.kind ≡ kind)
declared_back s kind names g o =
    let r = stands_map_back (λ (n : NameId × Place). record { name = n.0.n; at = n.1; kind = kind; site = s }) names
    o.place g o.stands in
    let p = stands_map (λ (n : NameId × Place). n.0.n) names o.place r.0 r.1 in (
      subst (λ (x : ℕ). IsOneOf (map (λ (n : NameId × Place). n.0.n) names) x) (ap (λ (h : NamedMember). h.name) r.2)
          (record { place = o.place; stands = p }),
      ap (λ (h : NamedMember). h.kind) (sym r.2),
    )

kind_no_alias : (s : Site) (f : TypeForm) (t : NamedType) (settings : List Setting)
    → is_alias (member_kind_of s f t settings) ≡ false
kind_no_alias s f (DomainType b) settings = refl
kind_no_alias s f (ClassType b) settings = refl

-- the names of a declaration of a type, where the type is known
instance_gives : (d : Declared) (s : Site) (f : TypeForm) (settings : List Setting) (names : List (NameId × Place))
    (x : ℕ) → (IsNoType d f → ⊥) → IsOneOf (instance_names f names) x
    → (g : NamedMember) × IsOneOf (all_named s (declared_kind d s f settings) names) g × (g.name ≡ x)
    × (is_alias g.kind ≡ false)
instance_gives d s form.Boolean settings names x n o = none_there x o
instance_gives d s form.Integer settings names x n o = none_there x o
instance_gives d s (form.Named y) settings names x n o = go (type_named d y.n) refl
  where
    go : (t : Option NamedType) → type_named d y.n ≡ t
        → (g : NamedMember) × IsOneOf (all_named s
        (option_map (λ (t : NamedType). member_kind_of s (form.Named y) t settings) t) names) g × (g.name ≡ x)
        × (is_alias g.kind ≡ false)
    go None e = absurd (n (named e))
    go (Some t) e = let r = declared_one s (member_kind_of s (form.Named y) t settings) names x o in (r.0, r.1, r.2, ap is_alias r.3 ∙ kind_no_alias s (form.Named y) t settings)

instance_takes : (d : Declared) (s : Site) (f : TypeForm) (settings : List Setting) (names : List (NameId × Place))
    (g : NamedMember) → IsOneOf (all_named s (declared_kind d s f settings) names) g → is_inner g.kind ≡ true
    → IsOneOf (instance_names f names) g.name
instance_takes d s form.Boolean settings names g o h = let r = declared_back s (Variable form.Boolean settings) names g o in absurd (not_both _ (ap is_inner r.1) h)
instance_takes d s form.Integer settings names g o h = none_there g o
instance_takes d s (form.Named y) settings names g o h = go (type_named d y.n) o
  where
    go : (t : Option NamedType) → IsOneOf
        (all_named s (option_map (λ (t : NamedType). member_kind_of s (form.Named y) t settings) t) names) g
        → IsOneOf (map (λ (n : NameId × Place). n.0.n) names) g.name
    go None o = none_there g o
    go (Some t) o = (declared_back s (member_kind_of s (form.Named y) t settings) names g o).0

declared_no_alias : (d : Declared) (s : Site) (f : TypeForm) (settings : List Setting) (names : List (NameId × Place))
    (g : NamedMember) → IsOneOf (all_named s (declared_kind d s f settings) names) g → is_alias g.kind ≡ false
declared_no_alias d s form.Boolean settings names g o =
    ap is_alias (declared_back s (Variable form.Boolean settings) names g o).1
declared_no_alias d s form.Integer settings names g o = none_there g o
declared_no_alias d s (form.Named y) settings names g o = go (type_named d y.n) o
  where
    go : (t : Option NamedType) → IsOneOf
        (all_named s (option_map (λ (t : NamedType). member_kind_of s (form.Named y) t settings) t) names) g
        → is_alias g.kind ≡ false
    go None o = none_there g o
    go (Some t) o = ap is_alias (declared_back s (member_kind_of s (form.Named y) t settings) names g o).1
        ∙ kind_no_alias s (form.Named y) t settings

-- Members

-- a name that a member gives
abbrev pub Gives : Declared → Site → List NamedMember → (MemberKind → Bool) → ℕ → Type 0
Gives d s given other x = (g : NamedMember) × IsOneOf given g × (g.name ≡ x) × (other g.kind ≡ false)

inner_form_gives : (d : Declared) (s : Site) (f : MemberForm) (x : ℕ) → ((p : Place) → Misnames d f p → ⊥)
    → IsOneOf (inner_form f) x → Gives d s (names_of_form d s f) is_alias x
inner_form_gives d s (member.Extends y at) x n o = none_there x o
inner_form_gives d s (member.Declare t names settings) x n o =
    instance_gives d s t.form settings.items names.items x (λ h. n t.at (declares h)) o
inner_form_gives d s (member.Block b) x n o = none_there x o
inner_form_gives d s (member.Clones p y at) x n o =
    (record { name = y.n; at = at; kind = Clone p; site = s }, one_first _ _, only_item _ _ o, refl)
inner_form_gives d s (member.Embeds p y at) x n o = none_there x o
inner_form_gives d s (member.Parameter t y at e) x n o = none_there x o
inner_form_gives d s (member.Kept y at span) x n o = none_there x o
inner_form_gives d s (member.Event y at span) x n o = none_there x o
inner_form_gives d s (member.Observer t y at e) x n o = none_there x o
inner_form_gives d s (member.Hide p) x n o = none_there x o
inner_form_gives d s (member.Local y at guard action) x n o = none_there x o
inner_form_gives d s (member.Sync y at parts) x n o = none_there x o
inner_form_gives d s (member.Assert i) x n o = none_there x o

inner_form_takes : (d : Declared) (s : Site) (f : MemberForm) (g : NamedMember) → IsOneOf (names_of_form d s f) g
    → is_inner g.kind ≡ true → IsOneOf (inner_form f) g.name
inner_form_takes d s (member.Extends y at) g o h = none_there g o
inner_form_takes d s (member.Declare t names settings) g o h =
    instance_takes d s t.form settings.items names.items g o h
inner_form_takes d s (member.Block b) g o h = none_there g o
inner_form_takes d s (member.Clones p y at) g o h = let e = only_item _ _ o in subst (λ (x : ℕ). IsOneOf (y.n ∷ []) x) (ap (λ (z : NamedMember). z.name) e) (one_first y.n [])
inner_form_takes d s (member.Embeds p y at) g o h = let e = only_item _ _ o in absurd (not_both _ (sym (ap (λ (z : NamedMember). is_inner z.kind) e)) h)
inner_form_takes d s (member.Parameter t y at v) g o h = let e = only_item _ _ o in absurd (not_both _ (sym (ap (λ (z : NamedMember). is_inner z.kind) e)) h)
inner_form_takes d s (member.Kept y at span) g o h = let e = only_item _ _ o in absurd (not_both _ (sym (ap (λ (z : NamedMember). is_inner z.kind) e)) h)
inner_form_takes d s (member.Event y at span) g o h = let e = only_item _ _ o in absurd (not_both _ (sym (ap (λ (z : NamedMember). is_inner z.kind) e)) h)
inner_form_takes d s (member.Observer t y at v) g o h = let e = only_item _ _ o in absurd (not_both _ (sym (ap (λ (z : NamedMember). is_inner z.kind) e)) h)
inner_form_takes d s (member.Hide p) g o h = none_there g o
inner_form_takes d s (member.Local y at guard action) g o h = none_there g o
inner_form_takes d s (member.Sync y at parts) g o h = none_there g o
inner_form_takes d s (member.Assert i) g o h = none_there g o

alias_form_gives : (d : Declared) (s : Site) (f : MemberForm) (x : ℕ) → IsOneOf (alias_form f) x
    → Gives d s (names_of_form d s f) is_inner x
alias_form_gives d s (member.Extends y at) x o = none_there x o
alias_form_gives d s (member.Declare t names settings) x o = none_there x o
alias_form_gives d s (member.Block b) x o = none_there x o
alias_form_gives d s (member.Clones p y at) x o = none_there x o
alias_form_gives d s (member.Embeds p y at) x o =
    (record { name = y.n; at = at; kind = Alias p; site = s }, one_first _ _, only_item _ _ o, refl)
alias_form_gives d s (member.Parameter t y at e) x o = none_there x o
alias_form_gives d s (member.Kept y at span) x o = none_there x o
alias_form_gives d s (member.Event y at span) x o = none_there x o
alias_form_gives d s (member.Observer t y at e) x o = none_there x o
alias_form_gives d s (member.Hide p) x o = none_there x o
alias_form_gives d s (member.Local y at guard action) x o = none_there x o
alias_form_gives d s (member.Sync y at parts) x o = none_there x o
alias_form_gives d s (member.Assert i) x o = none_there x o

alias_form_takes : (d : Declared) (s : Site) (f : MemberForm) (g : NamedMember) → IsOneOf (names_of_form d s f) g
    → is_alias g.kind ≡ true → IsOneOf (alias_form f) g.name
alias_form_takes d s (member.Extends y at) g o h = none_there g o
alias_form_takes d s (member.Declare t names settings) g o h =
    absurd (not_both _ (declared_no_alias d s t.form settings.items names.items g o) h)
alias_form_takes d s (member.Block b) g o h = none_there g o
alias_form_takes d s (member.Clones p y at) g o h = let e = only_item _ _ o in absurd (not_both _ (sym (ap (λ (z : NamedMember). is_alias z.kind) e)) h)
alias_form_takes d s (member.Embeds p y at) g o h = let e = only_item _ _ o in subst (λ (x : ℕ). IsOneOf (y.n ∷ []) x) (ap (λ (z : NamedMember). z.name) e) (one_first y.n [])
alias_form_takes d s (member.Parameter t y at v) g o h = let e = only_item _ _ o in absurd (not_both _ (sym (ap (λ (z : NamedMember). is_alias z.kind) e)) h)
alias_form_takes d s (member.Kept y at span) g o h = let e = only_item _ _ o in absurd (not_both _ (sym (ap (λ (z : NamedMember). is_alias z.kind) e)) h)
alias_form_takes d s (member.Event y at span) g o h = let e = only_item _ _ o in absurd (not_both _ (sym (ap (λ (z : NamedMember). is_alias z.kind) e)) h)
alias_form_takes d s (member.Observer t y at v) g o h = let e = only_item _ _ o in absurd (not_both _ (sym (ap (λ (z : NamedMember). is_alias z.kind) e)) h)
alias_form_takes d s (member.Hide p) g o h = none_there g o
alias_form_takes d s (member.Local y at guard action) g o h = none_there g o
alias_form_takes d s (member.Sync y at parts) g o h = none_there g o
alias_form_takes d s (member.Assert i) g o h = none_there g o

-- a member that stands in a body names its types rightly
pub typed_member : {m : RootedModel} → KeepsTextRules m → (s : Site) (w : Member) → owned_at m.declared s ≡ Some (Plain
    w) → (p : Place) → Misnames m.declared (out-Member w) p → ⊥
typed_member k s w e p h = k.kept.kept 2 p (record { place = 1; stands = refl })
    (l2 (record { body = s.body; member = w; stands = record { place = s.place; stands = e }; misnames = h }))

inner_gives : {m : RootedModel} → KeepsTextRules m → (s : Site) (o : Option Owned) → owned_at m.declared s ≡ o → (x : ℕ)
    → IsOneOf (names_if inner_names o) x → Gives m.declared s (names_of m.declared s o) is_alias x
inner_gives k s None e x o = none_there x o
inner_gives {m = m} k s (Some (Plain w)) e x o = inner_form_gives m.declared s (out-Member w) x (typed_member k s w e) o
inner_gives k s (Some (Nested y at b)) e x o =
    (record { name = y.n; at = at; kind = Inner b.n None; site = s }, one_first _ _, only_item _ _ o, refl)

inner_takes : (m : RootedModel) (s : Site) (o : Option Owned) (g : NamedMember) → IsOneOf (names_of m.declared s o) g
    → is_inner g.kind ≡ true → IsOneOf (names_if inner_names o) g.name
inner_takes m s None g o h = none_there g o
inner_takes m s (Some (Plain w)) g o h = inner_form_takes m.declared s (out-Member w) g o h
inner_takes m s (Some (Nested y at b)) g o h = let e = only_item _ _ o in subst (λ (x : ℕ). IsOneOf (y.n ∷ []) x) (ap (λ (z : NamedMember). z.name) e) (one_first y.n [])

alias_gives : {m : RootedModel} → KeepsTextRules m → (s : Site) (o : Option Owned) → owned_at m.declared s ≡ o → (x : ℕ)
    → IsOneOf (names_if alias_names o) x → Gives m.declared s (names_of m.declared s o) is_inner x
alias_gives k s None e x o = none_there x o
alias_gives {m = m} k s (Some (Plain w)) e x o = alias_form_gives m.declared s (out-Member w) x o
alias_gives k s (Some (Nested y at b)) e x o = none_there x o

alias_takes : (m : RootedModel) (s : Site) (o : Option Owned) (g : NamedMember) → IsOneOf (names_of m.declared s o) g
    → is_alias g.kind ≡ true → IsOneOf (names_if alias_names o) g.name
alias_takes m s None g o h = none_there g o
alias_takes m s (Some (Plain w)) g o h = alias_form_takes m.declared s (out-Member w) g o h
alias_takes m s (Some (Nested y at b)) g o h = let e = only_item _ _ o in absurd (not_both _ (sym (ap (λ (z : NamedMember). is_alias z.kind) e)) h)

-- Units

entry_back : (entries : List NameEntry) (x n : ℕ) → entry_in entries x ≡ Some n
    → (e : NameEntry) × IsOneOf entries e × (e.0.n ≡ x) × (e.1.n ≡ n)
entry_back [] x n h = cc
entry_back (e ∷ es) x n h = elim (same_or_not e.0.n x) [
  | inl q ↦ (let w : (e.0.n == x) ≡ true = q.0 in let r = rw w at h in (e, one_first e es, q.1, some_same r))
  | inr q ↦ (let w : (e.0.n == x) ≡ false = q.0 in let r = rw w at h in let b = entry_back es x n r in (b.0, record { place = suc b.1.place; stands = b.1.stands }, b.2, b.3))
]
  where
    some_same : {A : Type 0} {a b : A} → Some a ≡ Some b → a ≡ b
    some_same e = cc

entry_lost : (entries : List NameEntry) (e : NameEntry) (x : ℕ) → IsOneOf entries e → e.0.n ≡ x → entry_in entries x ≡ None → ⊥
entry_lost [] e x o q h = one_none e o
entry_lost (f ∷ fs) e x o q h = elim (same_or_not f.0.n x) [
  | inl r ↦ (let w : (f.0.n == x) ≡ true = r.0 in let s = rw w at h in no s)
  | inr r ↦ (let w : (f.0.n == x) ≡ false = r.0 in let s = rw w at h in elim (one_cases f fs e o) [
    | inl t ↦ r.1 (ap (λ (z : NameEntry). z.0.n) t ∙ q)
    | inr t ↦ entry_lost fs e x t q s
  ])
]
  where
    no : Some f.1.n ≡ None → ⊥
    no s = cc

module _ {m : RootedModel} (k : KeepsTextRules m) (test other : MemberKind → Bool) (names : Owned → List ℕ)
    (either : (w : MemberKind) → (is_inner w ≡ true) ⊎ (is_alias w ≡ true) → other w ≡ false → test w ≡ true)
    (gives : (s : Site) (o : Option Owned) → owned_at m.declared s ≡ o → (x : ℕ) → IsOneOf (names_if names o) x
    → Gives m.declared s (names_of m.declared s o) other x)
    (takes : (s : Site) (o : Option Owned) (g : NamedMember) → IsOneOf (names_of m.declared s o) g → test g.kind ≡ true
    → IsOneOf (names_if names o) g.name) where
  unit_gives : (u : UnitPath) (x : ℕ) → IsOneOf (names_at_sites names m.declared (members_at m u)) x
      → (g : NamedMember) × IsOneOf (names_at m u) g × (g.name ≡ x) × (other g.kind ≡ false)
  unit_gives u x o =
      let c = flat_origin (λ s. names_if names (owned_at m.declared s)) (members_at m u) o.place x o.stands in
      let g = gives c.item (owned_at m.declared c.item) refl x c.is_one in (
        g.0,
        flat_one (λ s. names_of m.declared s (owned_at m.declared s)) (members_at m u) c.item g.0
            (record { place = c.from; stands = c.stands }) g.1,
        g.2,
        g.3,
      )

  unit_takes : (u : UnitPath) (g : NamedMember) → IsOneOf (names_at m u) g → test g.kind ≡ true
      → IsOneOf (names_at_sites names m.declared (members_at m u)) g.name
  unit_takes u g o h =
      let c = flat_origin (λ s. names_of m.declared s (owned_at m.declared s)) (members_at m u) o.place g o.stands in
      flat_one (λ s. names_if names (owned_at m.declared s)) (members_at m u) c.item g.name
      (record { place = c.from; stands = c.stands }) (takes c.item (owned_at m.declared c.item) g c.is_one h)

  pub are_names : {units : List UnitPath} {u : UnitPath} {list sorted : List NameEntry}
      → AddsNames m units u [] (names_at_sites names m.declared (members_at m u)) list → IsPermutation list sorted
      → IsNonDecreasingBy (λ (e : NameEntry). e.0.n) sorted → AreNames m units test u sorted
  are_names {units = units} {u = u} {list = list} {sorted = sorted} adds perm order =
      record { found = found; absent = absent; ordered = order }
    where
      found : (x n : ℕ) → entry_in sorted x ≡ Some n → (v : UnitPath) × Stands units n v × IsUnitIn m test u x v
      found x n h =
          let b = entry_back sorted x n h in
          let o = one_contains list b.0 (Contains-permutation sorted list b.0 (IsPermutation-sym list sorted perm)
          (contains_one sorted b.0 b.1)) in
          let a = adds_right adds b.0 o in
          let g = unit_gives u b.0.0.n a.name in
          let is : name_at m u x ≡ Some g.0 =
          subst (λ (y : ℕ). name_at m u y ≡ Some g.0) (g.2 ∙ b.2)
          (named_here (names_at m u) g.1.place g.0 (members_apart k u) g.1.stands) in
          let l = subst (λ (y : ℕ). LeadsFrom m u y (Reaches a.unit)) b.2 a.leads in
          let w = leads_kind (kind_at m u x) l in
          let same : w.0 ≡ g.0.kind = some_same (sym w.1 ∙ ap (option_map (λ (h : NamedMember). h.kind)) is) in (
            a.unit,
            subst (λ (y : ℕ). Stands units y a.unit) b.3 a.stands,
            record {
              given = g.0;
              is = is;
              passes = either g.0.kind
                  (subst (λ (z : MemberKind). (is_inner z ≡ true) ⊎ (is_alias z ≡ true)) same w.2) g.3;
              leads = l;
            },
          )
        where
          some_same : {A : Type 0} {a b : A} → Some a ≡ Some b → a ≡ b
          some_same e = cc

      absent : (x : ℕ) (v : UnitPath) → entry_in sorted x ≡ None → IsUnitIn m test u x v → ⊥
      absent x v h i =
          let b = named_back (names_at m u) x i.given i.is in
          let t = unit_takes u i.given b.0 i.passes in
          let a = adds_all adds x v (subst (λ (y : ℕ). IsOneOf (names_at_sites names m.declared (members_at m u)) y) b.1
          t) i.leads in
          entry_lost sorted a.0 x (one_contains sorted a.0
          (Contains-permutation list sorted a.0 perm (contains_one list a.0 a.1))) a.2 h

inner_either : (w : MemberKind) → (is_inner w ≡ true) ⊎ (is_alias w ≡ true) → is_alias w ≡ false → is_inner w ≡ true
inner_either w (inl h) n = h
inner_either w (inr h) n = absurd (not_both _ n h)

alias_either : (w : MemberKind) → (is_inner w ≡ true) ⊎ (is_alias w ≡ true) → is_inner w ≡ false → is_alias w ≡ true
alias_either w (inl h) n = absurd (not_both _ n h)
alias_either w (inr h) n = h

-- the inner units of a unit, and its aliases, from what was added and put in order
pub inner_listed : {m : RootedModel} {units : List UnitPath} {u : UnitPath} {list sorted : List NameEntry} → KeepsTextRules
    m → AddsNames m units u [] (names_at_sites inner_names m.declared (members_at m u)) list → IsPermutation list sorted
    → IsNonDecreasingBy (λ (e : NameEntry). e.0.n) sorted → AreNames m units is_inner u sorted
inner_listed {m = m} k adds perm order =
    are_names k is_inner is_alias inner_names inner_either (inner_gives k) (inner_takes m) adds perm order

pub aliases_listed : {m : RootedModel} {units : List UnitPath} {u : UnitPath} {list sorted : List NameEntry}
    → KeepsTextRules m
    → AddsNames m units u [] (names_at_sites alias_names m.declared (members_at m u)) list → IsPermutation list sorted
    → IsNonDecreasingBy (λ (e : NameEntry). e.0.n) sorted → AreNames m units is_alias u sorted
aliases_listed {m = m} k adds perm order =
    are_names k is_alias is_inner alias_names alias_either (alias_gives k) (alias_takes m) adds perm order

-- what a declaration declares has no path
pub declared_plain : (d : Declared) (s : Site) (f : TypeForm) (settings : List Setting) (names : List (NameId × Place))
    (g : NamedMember) (p : Path) → IsOneOf (all_named s (declared_kind d s f settings) names) g → HasPath g.kind p → ⊥
declared_plain d s form.Boolean settings names g p o h =
    elim (subst (λ (k : MemberKind). HasPath k p) (declared_back s (Variable form.Boolean settings) names g o).1 h) [ ]
declared_plain d s form.Integer settings names g p o h = none_there g o
declared_plain d s (form.Named y) settings names g p o h = go (type_named d y.n) o
  where
    go : (t : Option NamedType) → IsOneOf
        (all_named s (option_map (λ (t : NamedType). member_kind_of s (form.Named y) t settings) t) names) g → ⊥
    go None o = none_there g o
    go (Some (DomainType b)) o = elim (subst (λ (k : MemberKind). HasPath k p)
        (declared_back s (Variable (form.Named y) settings) names g o).1 h) [ ]
    go (Some (ClassType b)) o = elim (subst (λ (k : MemberKind). HasPath k p)
        (declared_back s (Inner b (Some s)) names g o).1 h) [ ]
