-- Members that give variables, and their values in force.
use Rattle.std.proofs.Common.{◌≡◌, ℕ, true, false, List, [], ◌∷◌, Option, Some, None, option_map, option_and_then, is_some, Vec, Global, refl, sym, ap, subst, inl, inr}
use Rattle.ar_base.specs.Lists.{Stands, IsOneOf}
use Rattle.ar_base.specs.Numbers.{NameId}
use Rattle.ar_base.specs.declared.places.Place.{Place}
use Rattle.ar_base.proofs.Standing.{one_cases, one_none, one_first}
use Rattle.ar_syntax.specs.declared.members.Member.{out-Member}
use Rattle.ar_syntax.specs.declared.members.Member.TheOpen as member
use Rattle.ar_syntax.specs.declared.members.Setting.{Setting}
use Rattle.ar_syntax.specs.declared.members.TypeForm.{TypeForm}
use Rattle.ar_syntax.specs.declared.members.TypeForm.TheVariants as form
use Rattle.ar_syntax.specs.declared.members.TypeName.{TypeName}
use Rattle.class_table.specs.Declaring.{MemberForm, NamedType, DomainType, ClassType, Declared}
use Rattle.class_table.specs.Members.{Site, NamedMember, MemberKind, Variable, Inner, domain_body, type_named, member_kind_of, declared_kind, all_named, one_named, names_of_form, names_of, owned_at}
use Rattle.class_table.specs.declared.tables.Owned.{Owned}
use Rattle.class_table.specs.declared.tables.Owned.TheVariants.{Plain, Nested}
use Rattle.hierarchy.specs.Models.{RootedModel}
use Rattle.hierarchy.specs.Units.{UnitPath, members_at, names_at, name_at}
use Rattle.hierarchy.specs.Walks.{is_variable}
use Rattle.hierarchy.specs.Listing.{form_of}
use Rattle.hierarchy.specs.Settings.{settings_in, settings_of}
use Rattle.hierarchy.proofs.Apart.{named_back}
use Rattle.unit_rules.specs.Typing.{bounds_variables}
use Rattle.unit_rules.proofs.Sited.{flat_one}
use Rattle.instantiate.specs.Values.{type_declared, declared_type}

-- one of the names of a declaration
pub record IsAllNamed (s : Site) (kind : Option MemberKind) (names : List (NameId × Place)) (g : NamedMember) : Type
    0 where
  pub site : g.site ≡ s
  pub kind_is : kind ≡ Some g.kind
  pub first : NameId × Place
  pub more : List (NameId × Place)
  pub is_first : names ≡ first ∷ more

pub all_one : (s : Site) (kind : Option MemberKind) (names : List (NameId × Place)) (g : NamedMember)
    → IsOneOf (all_named s kind names) g → IsAllNamed s kind names g
all_one s None names g h = absurd (one_none g h)
all_one s (Some k) [] g h = absurd (one_none g h)
all_one s (Some k) (n ∷ ns) g h = elim (one_cases _ _ g h) [
  | inl e ↦ subst (IsAllNamed s (Some k) (n ∷ ns)) e
      (record { site = refl; kind_is = refl; first = n; more = ns; is_first = refl })
  | inr j ↦ let w = all_one s (Some k) ns g j in record { site = w.site; kind_is = w.kind_is; first = n; more = ns; is_first = refl }
]

pub single_one : (s : Site) (x : NameId) (at : Place) (k : MemberKind) (g : NamedMember)
    → IsOneOf (one_named s x at k) g → (g.site ≡ s) × (k ≡ g.kind)
single_one s x at k g h = elim (one_cases _ _ g h) [
  | inl e ↦ (ap (λ (z : NamedMember). z.site) (sym e), ap (λ (z : NamedMember). z.kind) e)
  | inr j ↦ absurd (one_none g j)
]

module _ (d : Declared) (s : Site) where
  -- each name of a member stands at the member's site
  site_form : (f : MemberForm) (g : NamedMember) → IsOneOf (names_of_form d s f) g → g.site ≡ s
  site_form (member.Declare t names settings) g h =
      (all_one s (declared_kind d s t.form settings.items) names.items g h).site
  site_form (member.Clones p x at) g h = (single_one s x at _ g h).0
  site_form (member.Embeds p x at) g h = (single_one s x at _ g h).0
  site_form (member.Parameter t x at e) g h = (single_one s x at _ g h).0
  site_form (member.Kept x at span) g h = (single_one s x at _ g h).0
  site_form (member.Event x at span) g h = (single_one s x at _ g h).0
  site_form (member.Observer t x at e) g h = (single_one s x at _ g h).0
  site_form f g h = absurd (one_none g h)

  pub names_site : (o : Option Owned) (g : NamedMember) → IsOneOf (names_of d s o) g → g.site ≡ s
  names_site None g h = absurd (one_none g h)
  names_site (Some (Plain m)) g h = site_form (out-Member m) g h
  names_site (Some (Nested x at b)) g h = (single_one s x at _ g h).0

-- a member of a unit by its name: it is one of those that the member at its site gives, and that site is one of the
-- unit's
pub record IsGivenAt (m : RootedModel) (u : UnitPath) (g : NamedMember) : Type 0 where
  pub place : ℕ
  pub stands : Stands (members_at m u) place g.site
  pub given : IsOneOf (names_of m.declared g.site (owned_at m.declared g.site)) g

pub given_at : (m : RootedModel) (u : UnitPath) (x : ℕ) (g : NamedMember) → name_at m u x ≡ Some g → IsGivenAt m u g
given_at m u x g e =
    let h = named_back (names_at m u) x g e in
    let w = flat_one (λ (t : Site). names_of m.declared t (owned_at m.declared t)) (members_at m u) g h.0 in
    let same = names_site m.declared w.1 (owned_at m.declared w.1) g w.3 in
    record {
      place = w.0;
      stands = subst (λ (t : Site). Stands (members_at m u) w.0 t) (sym same) w.2;
      given = subst (λ (t : Site). IsOneOf (names_of m.declared t (owned_at m.declared t)) g) (sym same) w.3;
    }

-- the member is a declaration that gives the variable
pub record DeclaresSo (d : Declared) (f : MemberForm) (g : NamedMember) : Type 0 where
  pub type : TypeName
  pub names : Vec (NameId × Place) Global
  pub settings : Vec Setting Global
  pub is : f ≡ member.Declare type names settings
  pub kind : g.kind ≡ Variable type.form settings.items
  pub bounds : bounds_variables d type.form ≡ true
  pub first : NameId × Place
  pub more : List (NameId × Place)
  pub is_first : names.items ≡ first ∷ more

-- the same of a member that was looked up
pub record DeclaredBy (d : Declared) (o : Option Owned) (g : NamedMember) : Type 0 where
  pub form : MemberForm
  pub is_form : IsOneOf (form_of o) form
  pub declares : DeclaresSo d form g
  pub type_is : declared_type o ≡ Some declares.type.form
  pub settings_are : settings_of o ≡ declares.settings.items

kind_variable : (d : Declared) (s : Site) (f : TypeForm) (settings : List Setting) (k : MemberKind)
    → is_variable k ≡ true → declared_kind d s f settings ≡ Some k
    → (k ≡ Variable f settings) × (bounds_variables d f ≡ true)
kind_variable d s form.Boolean settings k v e = (cc, refl)
kind_variable d s form.Integer settings k v e = cc
kind_variable d s (form.Named x) settings k v e = by (type_named d x.n) refl e
  where
    other : (b : ℕ) → is_variable k ≡ true → Inner b (Some s) ≡ k → ⊥
    other b v i = let z = ap is_variable i in cc

    by : (t : Option NamedType) → type_named d x.n ≡ t
        → option_map (λ (u : NamedType). member_kind_of s (form.Named x) u settings) t ≡ Some k
        → (k ≡ Variable (form.Named x) settings) × (bounds_variables d (form.Named x) ≡ true)
    by None i f = cc
    by (Some (DomainType b)) i f = (cc, ap (λ (t : Option NamedType). is_some (option_and_then domain_body t)) i)
    by (Some (ClassType b)) i f = absurd (other b v (cc))

module _ (d : Declared) (s : Site) (g : NamedMember) (v : is_variable g.kind ≡ true) where
  no_variable : (x : NameId) (at : Place) (k : MemberKind) → is_variable k ≡ false → IsOneOf (one_named s x at k) g → ⊥
  no_variable x at k n h = let e = ap is_variable (single_one s x at k g h).1 in cc

  pub declares_form : (f : MemberForm) → IsOneOf (names_of_form d s f) g → DeclaresSo d f g
  declares_form (member.Declare t names settings) h =
      let w = all_one s (declared_kind d s t.form settings.items) names.items g h in
      let k = kind_variable d s t.form settings.items g.kind v w.kind_is in
      record {
        type = t;
        names = names;
        settings = settings;
        is = refl;
        kind = k.0;
        bounds = k.1;
        first = w.first;
        more = w.more;
        is_first = w.is_first;
      }
  declares_form (member.Clones p x at) h = absurd (no_variable x at _ refl h)
  declares_form (member.Embeds p x at) h = absurd (no_variable x at _ refl h)
  declares_form (member.Parameter t x at e) h = absurd (no_variable x at _ refl h)
  declares_form (member.Kept x at span) h = absurd (no_variable x at _ refl h)
  declares_form (member.Event x at span) h = absurd (no_variable x at _ refl h)
  declares_form (member.Observer t x at e) h = absurd (no_variable x at _ refl h)
  declares_form f h = absurd (one_none g h)

  -- the same of a member that was looked up
  pub declares_owned : (o : Option Owned) → IsOneOf (names_of d s o) g → DeclaredBy d o g
  declares_owned None h = absurd (one_none g h)
  declares_owned (Some (Plain m)) h =
      let w = declares_form (out-Member m) h in
      record {
        form = out-Member m;
        is_form = one_first (out-Member m) [];
        declares = w;
        type_is = ap type_declared w.is;
        settings_are = ap settings_in w.is;
      }
  declares_owned (Some (Nested x at b)) h = absurd (no_variable x at _ refl h)
