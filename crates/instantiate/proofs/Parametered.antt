-- Members that give parameters.
use Rattle.std.proofs.Common.{◌≡◌, ℕ, true, false, List, Option, Some, None, option_map, refl, sym, ◌∙◌, ap, subst}
use Rattle.ar_base.specs.Lists.{IsOneOf}
use Rattle.ar_base.specs.Numbers.{NameId}
use Rattle.ar_base.specs.declared.places.Place.{Place}
use Rattle.ar_base.proofs.Standing.{one_none}
use Rattle.ar_syntax.specs.declared.expressions.RawExpr.{RawExpr}
use Rattle.ar_syntax.specs.declared.members.Member.{Member, out-Member}
use Rattle.ar_syntax.specs.declared.members.Member.TheOpen as member
use Rattle.ar_syntax.specs.declared.members.Setting.{Setting}
use Rattle.ar_syntax.specs.declared.members.TypeForm.{TypeForm}
use Rattle.ar_syntax.specs.declared.members.TypeForm.TheVariants as form
use Rattle.class_table.specs.Declaring.{MemberForm, NamedType, DomainType, ClassType, Declared}
use Rattle.class_table.specs.Members.{Site, owned_at, domain_named, NamedMember, MemberKind, Parameter, Kept, type_named, member_kind_of, declared_kind, one_named, names_of_form, names_of}
use Rattle.class_table.specs.Rules.{Misnames, parameter, IsNoDomainName, named}
use Rattle.class_table.specs.declared.tables.Owned.{Owned}
use Rattle.class_table.specs.declared.tables.Owned.TheVariants.{Plain, Nested}
use Rattle.domains.specs.declared.Domain.{Domain}
use Rattle.hierarchy.specs.Models.{RootedModel}
use Rattle.hierarchy.specs.ModelsInside.{KeepsTextRules}
use Rattle.hierarchy.specs.Units.{UnitPath, name_at}
use Rattle.hierarchy.specs.Walks.{is_parameter}
use Rattle.hierarchy.specs.Tie.{HasParameterDomain}
use Rattle.hierarchy.specs.Tie.HasParameterDomain.{domain, integer}
use Rattle.unit_rules.proofs.Named.{typed_member}
use Rattle.instantiate.specs.Values.{parameter_type_in, parameter_type, HasDomainIf, has, every_whole, no_domain}
use Rattle.instantiate.proofs.Named.{all_one, single_one, given_at}

-- what the type of a member says of the parameter that it gives
pub data IsParameterSo (g : NamedMember) : Option (Option TypeForm) → Type 0 where
  typed : {f : TypeForm} (value : RawExpr) → g.kind ≡ Parameter f value → IsParameterSo g (Some (Some f))
  kept : g.kind ≡ Kept → IsParameterSo g (Some None)

-- a declaration gives no parameter
no_declared : (d : Declared) (s : Site) (f : TypeForm) (settings : List Setting) (k : MemberKind)
    → is_parameter k ≡ true → declared_kind d s f settings ≡ Some k → ⊥
no_declared d s form.Boolean settings k v e = let z = ap (λ (o : Option MemberKind). option_map is_parameter o) e in cc
no_declared d s form.Integer settings k v e = cc
no_declared d s (form.Named x) settings k v e = by (type_named d x.n) e
  where
    by : (t : Option NamedType) → option_map (λ (u : NamedType). member_kind_of s (form.Named x) u settings) t ≡ Some k
        → ⊥
    by None f = cc
    by (Some (DomainType b)) f = let z = ap (λ (o : Option MemberKind). option_map is_parameter o) f in cc
    by (Some (ClassType b)) f = let z = ap (λ (o : Option MemberKind). option_map is_parameter o) f in cc

module _ (d : Declared) (s : Site) (g : NamedMember) (v : is_parameter g.kind ≡ true) where
  no_parameter : (x : NameId) (at : Place) (k : MemberKind) → is_parameter k ≡ false → IsOneOf (one_named s x at k) g
      → ⊥
  no_parameter x at k n h = let e = ap is_parameter (single_one s x at k g h).1 in cc

  parameter_form : (f : MemberForm) → IsOneOf (names_of_form d s f) g → IsParameterSo g (parameter_type_in f)
  parameter_form (member.Declare t names settings) h =
      absurd (no_declared d s t.form settings.items g.kind v
      (all_one s (declared_kind d s t.form settings.items) names.items g h).kind_is)
  parameter_form (member.Clones p x at) h = absurd (no_parameter x at _ refl h)
  parameter_form (member.Embeds p x at) h = absurd (no_parameter x at _ refl h)
  parameter_form (member.Parameter t x at e) h = typed e (sym (single_one s x at _ g h).1)
  parameter_form (member.Kept x at span) h = kept (sym (single_one s x at _ g h).1)
  parameter_form (member.Event x at span) h = absurd (no_parameter x at _ refl h)
  parameter_form (member.Observer t x at e) h = absurd (no_parameter x at _ refl h)
  parameter_form f h = absurd (one_none g h)

  -- the same of a member that was looked up
  pub parameter_owned : (o : Option Owned) → IsOneOf (names_of d s o) g → IsParameterSo g (parameter_type o)
  parameter_owned None h = absurd (one_none g h)
  parameter_owned (Some (Plain m)) h = parameter_form (out-Member m) h
  parameter_owned (Some (Nested x at b)) h = absurd (no_parameter x at _ refl h)

-- it is one of the two
pub no_kind : (g : NamedMember) (o : Option (Option TypeForm)) → IsParameterSo g o → o ≡ None → ⊥
no_kind g o (typed value k) i = cc
no_kind g o (kept k) i = cc

-- which of the two it is
pub typed_kind : (g : NamedMember) (o : Option (Option TypeForm)) (f : TypeForm) → IsParameterSo g o → o ≡ Some (Some f)
    → (value : RawExpr) × (g.kind ≡ Parameter f value)
typed_kind g o f (typed {f = e} value k) i = let j : e ≡ f = cc in (value, k ∙ ap (λ (z : TypeForm). Parameter z value) j)
typed_kind g o f (kept k) i = cc

pub kept_kind : (g : NamedMember) (o : Option (Option TypeForm)) → IsParameterSo g o → o ≡ Some None → g.kind ≡ Kept
kept_kind g o (typed value k) i = cc
kept_kind g o (kept k) i = k

-- no parameter has the type of a class
declared_parameter : {m : RootedModel} → KeepsTextRules m → (s : Site) (w : Member) (f : MemberForm) (x : NameId)
    → owned_at m.declared s ≡ Some (Plain w) → out-Member w ≡ f → parameter_type_in f ≡ Some (Some (form.Named x))
    → domain_named m.declared x.n ≡ None → ⊥
declared_parameter {m = m} k s w (member.Parameter t y at e) x o i p n =
    let z : t.form ≡ form.Named x = cc in
    typed_member k s w o t.at (subst (λ (f : MemberForm). Misnames m.declared f t.at) (sym i)
    (parameter (subst (IsNoDomainName m.declared) (sym z) (named n))))
declared_parameter k s w (member.Kept y at span) x o i p n = cc
declared_parameter k s w f x o i p n = cc

class_parameter : {m : RootedModel} → KeepsTextRules m → (s : Site) (o : Option Owned) (x : NameId)
    → owned_at m.declared s ≡ o → parameter_type o ≡ Some (Some (form.Named x)) → domain_named m.declared x.n ≡ None
    → ⊥
class_parameter k s None x e p n = cc
class_parameter k s (Some (Plain w)) x e p n = declared_parameter k s w (out-Member w) x e refl p n
class_parameter k s (Some (Nested y at b)) x e p n = cc

written_type : (g : NamedMember) (o : Option (Option TypeForm)) (f : TypeForm) (value : RawExpr) → IsParameterSo g o
    → g.kind ≡ Parameter f value → o ≡ Some (Some f)
written_type g o f value (typed {f = e} v k) i =
    let z : Parameter e v ≡ Parameter f value = sym k ∙ i in
    let q : e ≡ f = cc in ap (λ (y : TypeForm). Some (Some y)) q
written_type g o f value (kept k) i = let z : Kept ≡ Parameter f value = sym k ∙ i in cc

-- the domain of the type of a parameter is that of the parameter
pub parameter_domain : {m : RootedModel} → KeepsTextRules m → (u : UnitPath) (x : ℕ) (g : NamedMember) (f : TypeForm)
    (value : RawExpr) (v : Option Domain) → name_at m u x ≡ Some g → g.kind ≡ Parameter f value
    → HasDomainIf m.declared f v → HasParameterDomain m.declared (Parameter f value) v
parameter_domain k u x g f value v e i (has h) = domain h
parameter_domain k u x g f value v e i every_whole = integer
parameter_domain {m = m} k u x g f value v e i (no_domain {x = y} n) =
    let at = given_at m u x g e in
    let so = parameter_owned m.declared g.site g (ap is_parameter i) (owned_at m.declared g.site) at.given in
    absurd (class_parameter k g.site (owned_at m.declared g.site) y refl
    (written_type g _ (form.Named y) value so i) n)
