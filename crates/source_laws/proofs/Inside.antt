-- Blocks and instances in a unit have bodies inside the unit's body.
use Rattle.std.proofs.Common.{◌≡◌, ℕ, ◌+◌, inl, inr, List, [], ◌∷◌, Option, Some, None, slice_get, unwrap_or, option_map, option_and_then, refl, sym, ◌∙◌, ap, subst}
use Rattle.ar_base.specs.Lists.{IsOneOf}
use Rattle.ar_base.specs.Numbers.{NameId}
use Rattle.ar_base.specs.declared.places.Place.{Place}
use Rattle.ar_base.proofs.Standing.{one_none, one_cases, one_split, one_here, one_rest, stands_map_back}
use Rattle.ar_syntax.specs.declared.members.Member.{out-Member}
use Rattle.ar_syntax.specs.declared.members.Member.TheOpen as member
use Rattle.ar_syntax.specs.declared.members.TypeForm.{TypeForm}
use Rattle.ar_syntax.specs.declared.members.TypeForm.TheVariants as form
use Rattle.ar_syntax.specs.declared.members.Setting.{Setting}
use Rattle.class_table.specs.Declaring.{MemberForm, TextBody, Declared, NamedType, DomainType, ClassType}
use Rattle.class_table.specs.Members.{Site, type_named, class_named, class_body, own_of, own_at, owned_at, extended, name_extended, sites_from, Members, members, Inherits, nothing, from, passes, MemberKind, Inner, Variable, NamedMember, member_kind_of, declared_kind, all_named, names_of, names_of_form}
use Rattle.class_table.specs.Rules.{NamesClass, extends, instances, HasInside, class, block, IsWithin, itself, further}
use Rattle.class_table.specs.declared.tables.Owned.{Owned}
use Rattle.class_table.specs.declared.tables.Owned.TheVariants.{Plain, Nested}
use Rattle.hierarchy.specs.Models.{RootedModel}
use Rattle.hierarchy.specs.ModelsInside.{KeepsTextRules}
use Rattle.hierarchy.specs.Units.{UnitPath, body_of, members_at, names_at}
use Rattle.hierarchy.proofs.Things.{ComesFrom, flat_origin}

-- each of these names is of this kind
kind_of_all : (s : Site) (kind : MemberKind) (names : List (NameId × Place)) (g : NamedMember)
    → IsOneOf (all_named s (Some kind) names) g → kind ≡ g.kind
kind_of_all s kind names g o =
    let b = stands_map_back (λ (n : NameId × Place). record { name = n.0.n; at = n.1; kind = kind; site = s }) names
    o.place g o.stands in
    ap (λ (z : NamedMember). z.kind) b.2

kind_of_one : {x : NamedMember} (g : NamedMember) → IsOneOf (x ∷ []) g → x.kind ≡ g.kind
kind_of_one {x = x} g o = elim (one_cases x [] g o)
    [ inl e ↦ ap (λ (z : NamedMember). z.kind) e | inr r ↦ absurd (one_none g r) ]

-- an instance's class, which its declaration names
inner_class : (d : Declared) (s : Site) (f : TypeForm) (settings : List Setting) (names : List (NameId × Place))
    (g : NamedMember) (b : ℕ) (at : Option Site)
    → IsOneOf (all_named s (declared_kind d s f settings) names) g
    → g.kind ≡ Inner b at → (x : NameId) × (f ≡ form.Named x) × (class_named d x.n ≡ Some b)
inner_class d s form.Boolean settings names g b at o e = let k = kind_of_all s (Variable form.Boolean settings) names g o in cc
inner_class d s form.Integer settings names g b at o e = absurd (one_none g o)
inner_class d s (form.Named x) settings names g b at o e = go (type_named d x.n) refl
  where
    there : (t : Option NamedType) → type_named d x.n ≡ t
        → IsOneOf (all_named s (option_map (λ (z : NamedType). member_kind_of s (form.Named x) z settings) t) names) g
    there t i = subst (λ (z : Option NamedType). IsOneOf
        (all_named s (option_map (λ (y : NamedType). member_kind_of s (form.Named x) y settings) z) names) g) i o

    go : (t : Option NamedType) → type_named d x.n ≡ t
        → (y : NameId) × (form.Named x ≡ form.Named y) × (class_named d y.n ≡ Some b)
    go None i = absurd (one_none g (there None i))
    go (Some (DomainType v)) i = let k = kind_of_all s (Variable (form.Named x) settings) names g (there (Some (DomainType v)) i) in cc
    go (Some (ClassType c)) i =
        let k = kind_of_all s (Inner c (Some s)) names g (there (Some (ClassType c)) i) in
        let same : c ≡ b = cc in
        (x, refl, ap (option_and_then class_body) i ∙ ap (λ (z : ℕ). Some z) same)

-- what a member's form names as an instance
form_inner : (d : Declared) (s : Site) (f : MemberForm) (g : NamedMember) (b : ℕ) (at : Option Site)
    → IsOneOf (names_of_form d s f) g → g.kind ≡ Inner b at
    → (p : Place) × NamesClass d f b p
form_inner d s (member.Extends x p) g b at o e = absurd (one_none g o)
form_inner d s (member.Declare t names settings) g b at o e =
    let h = inner_class d s t.form settings.items names.items g b at o e in (t.at, instances h.0 h.1 h.2)
form_inner d s (member.Block u) g b at o e = absurd (one_none g o)
form_inner d s (member.Clones q x p) g b at o e = let k = kind_of_one g o in cc
form_inner d s (member.Embeds q x p) g b at o e = let k = kind_of_one g o in cc
form_inner d s (member.Parameter t x p v) g b at o e = let k = kind_of_one g o in cc
form_inner d s (member.Kept x p span) g b at o e = let k = kind_of_one g o in cc
form_inner d s (member.Event x p span) g b at o e = let k = kind_of_one g o in cc
form_inner d s (member.Observer t x p v) g b at o e = let k = kind_of_one g o in cc
form_inner d s (member.Hide q) g b at o e = absurd (one_none g o)
form_inner d s (member.Local x p guard action) g b at o e = absurd (one_none g o)
form_inner d s (member.Sync x p parts) g b at o e = absurd (one_none g o)
form_inner d s (member.Assert i) g b at o e = absurd (one_none g o)

-- a block's or an instance's body is inside the body in which its member stands
site_inner : (d : Declared) (s : Site) (o : Option Owned) (g : NamedMember) (b : ℕ) (at : Option Site)
    → owned_at d s ≡ o → IsOneOf (names_of d s o) g → g.kind ≡ Inner b at
    → HasInside d s.body b
site_inner d s None g b at i o e = absurd (one_none g o)
site_inner d s (Some (Plain m)) g b at i o e =
    let h = form_inner d s (out-Member m) g b at o e in class m (record { place = s.place; stands = i }) h.1
site_inner d s (Some (Nested x p id)) g b at i o e =
    let k = kind_of_one g o in
    let same : id.n ≡ b = cc in
    subst (HasInside d s.body) same (block x p id (record { place = s.place; stands = i }))

-- members stand in the body or in one that is inside it

site_body : (b k : ℕ) (os : List Owned) (s : Site) → IsOneOf (sites_from b k os) s → b ≡ s.body
site_body b k [] s o = absurd (one_none s o)
site_body b k (x ∷ os) s o = elim (one_cases (record { body = b; place = k }) (sites_from b (k + 1) os) s o) [
  | inl e ↦ ap (λ (z : Site). z.body) e
  | inr r ↦ site_body b (k + 1) os s r
]

extends_inside : (d : Declared) (a : ℕ) (o : Owned) (x b : ℕ) → IsOneOf (own_at d a) o → extended o ≡ Some x
    → class_named d x ≡ Some b → HasInside d a b
extends_inside d a (Plain m) x b i e c = go (out-Member m) refl
  where
    go : (f : MemberForm) → out-Member m ≡ f → HasInside d a b
    go (member.Extends y p) j =
        let k : Some y.n ≡ Some x = sym (ap name_extended j) ∙ e in
        let same : x ≡ y.n = cc in
        class m i (subst (λ (z : MemberForm). NamesClass d z b p) (sym j) (extends (ap (class_named d) (sym same) ∙ c)))
    go (member.Declare t names settings) j = let k = sym (ap name_extended j) ∙ e in cc
    go (member.Block u) j = let k = sym (ap name_extended j) ∙ e in cc
    go (member.Clones q y p) j = let k = sym (ap name_extended j) ∙ e in cc
    go (member.Embeds q y p) j = let k = sym (ap name_extended j) ∙ e in cc
    go (member.Parameter t y p v) j = let k = sym (ap name_extended j) ∙ e in cc
    go (member.Kept y p span) j = let k = sym (ap name_extended j) ∙ e in cc
    go (member.Event y p span) j = let k = sym (ap name_extended j) ∙ e in cc
    go (member.Observer t y p v) j = let k = sym (ap name_extended j) ∙ e in cc
    go (member.Hide q) j = let k = sym (ap name_extended j) ∙ e in cc
    go (member.Local y p guard action) j = let k = sym (ap name_extended j) ∙ e in cc
    go (member.Sync y p parts) j = let k = sym (ap name_extended j) ∙ e in cc
    go (member.Assert v) j = let k = sym (ap name_extended j) ∙ e in cc
extends_inside d a (Nested y p id) x b i e c = cc

mutual
  members_within : {d : Declared} {b : ℕ} {sites : List Site} → Members d b sites → (s : Site) → IsOneOf sites s
      → IsWithin d b s.body
  members_within {d = d} {b = b} (members {inherited = inherited} body st h) s o =
      elim (one_split inherited (sites_from b 0 body.own) s o) [
        | inl p ↦ inherits_within b (λ w i. subst (λ (z : Option TextBody). IsOneOf (own_of z) w) (sym st) i) h s p
        | inr p ↦ subst (IsWithin d b) (site_body b 0 body.own s p) itself
      ]

  inherits_within : {d : Declared} {os : List Owned} {sites : List Site} (b : ℕ)
      → ((w : Owned) → IsOneOf os w → IsOneOf (own_at d b) w) → Inherits d os sites → (s : Site) → IsOneOf sites s
      → IsWithin d b s.body
  inherits_within b i nothing s o = absurd (one_none s o)
  inherits_within {d = d} b i (from {o = w} {os = os} {xs = xs} {ys = ys} x c e f ms r) s o =
      elim (one_split xs ys s o) [
        | inl p ↦ further c (extends_inside d b w x c (i w (record { place = 0; stands = refl })) e f)
            (members_within ms s p)
        | inr p ↦ inherits_within b (λ z j. i z (one_rest w os z j)) r s p
      ]
  inherits_within b i (passes {o = w} {os = os} e r) s o = inherits_within b (λ z j. i z (one_rest w os z j)) r s o

-- a body inside the unit's body or inside one within it
pub record IsInside (d : Declared) (a b : ℕ) : Type 0 where
  pub body : ℕ
  pub within : IsWithin d a body
  pub inside : HasInside d body b

-- a unit's blocks and instances have bodies inside its own
pub inner_inside : {m : RootedModel} → KeepsTextRules m → (u : UnitPath) (g : NamedMember) (b : ℕ) (at : Option Site)
    → IsOneOf (names_at m u) g → g.kind ≡ Inner b at
    → IsInside m.declared (body_of m u) b
inner_inside {m = m} k u g b at o e = go (slice_get m.members (body_of m u)) refl
  where
    origin : ComesFrom (λ (s : Site). names_of m.declared s (owned_at m.declared s)) (members_at m u) g
    origin = flat_origin (λ (s : Site). names_of m.declared s (owned_at m.declared s)) (members_at m u) o.place g
        o.stands

    go : (all : Option (List Site)) → slice_get m.members (body_of m u) ≡ all → IsInside m.declared (body_of m u) b
    go None i = absurd (one_none origin.item
        (subst (λ (z : Option (List Site)). IsOneOf (unwrap_or z []) origin.item) i
        (one_here (members_at m u) origin.from origin.item origin.stands)))
    go (Some sites) i =
        let one = subst (λ (z : Option (List Site)). IsOneOf (unwrap_or z []) origin.item) i
        (one_here (members_at m u) origin.from origin.item origin.stands) in
        record {
          body = origin.item.body;
          within = members_within (k.rooted.members (body_of m u) sites i) origin.item one;
          inside = site_inner m.declared origin.item (owned_at m.declared origin.item) g b at refl origin.is_one e;
        }
