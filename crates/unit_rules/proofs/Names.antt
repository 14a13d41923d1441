-- How many variables and events a member gives.
use Rattle.std.proofs.Common.{◌≡◌, suc, Bool, true, false, is_some, List, [], ◌∷◌, length, Option, Some, None, option_map, option_and_then, refl, ap}
use Rattle.ar_base.specs.Numbers.{NameId}
use Rattle.ar_base.specs.declared.places.Place.{Place}
use Rattle.ar_syntax.specs.declared.members.Setting.{Setting}
use Rattle.ar_syntax.specs.declared.members.TypeForm.{TypeForm}
use Rattle.ar_syntax.specs.declared.members.TypeForm.TheVariants as form
use Rattle.class_table.specs.Declaring.{NamedType, DomainType, ClassType, Declared}
use Rattle.class_table.specs.Members.{Site, MemberKind, Variable, Inner, type_named, member_kind_of, domain_body, declared_kind, all_named}
use Rattle.hierarchy.specs.Walks.{is_variable, is_event}
use Rattle.unit_rules.specs.Counting.{named_so}
use Rattle.unit_rules.specs.Typing.{bounds_variables}

module _ (test : MemberKind → Bool) (s : Site) where
  -- names that all pass, and names of which none does
  all_so : (kind : MemberKind) (names : List (NameId × Place)) → test kind ≡ true
      → named_so test (all_named s (Some kind) names) ≡ length names
  all_so kind [] e = refl
  all_so kind (n ∷ ns) e = rw e (ap suc (all_so kind ns e))

  none_so : (kind : MemberKind) (names : List (NameId × Place)) → test kind ≡ false
      → named_so test (all_named s (Some kind) names) ≡ 0
  none_so kind [] e = refl
  none_so kind (n ∷ ns) e = rw e (none_so kind ns e)

module _ (d : Declared) (s : Site) (settings : List Setting) (names : List (NameId × Place)) where
  -- the variables of a declaration by a domain, and by any other type
  pub variables_all : (f : TypeForm) → bounds_variables d f ≡ true
      → named_so is_variable (all_named s (declared_kind d s f settings) names) ≡ length names
  variables_all form.Boolean e = all_so is_variable s (Variable form.Boolean settings) names refl
  variables_all form.Integer e = cc
  variables_all (form.Named x) e = by (type_named d x.n) e
    where
      by : (t : Option NamedType) → is_some (option_and_then domain_body t) ≡ true
          → named_so is_variable
          (all_named s (option_map (λ (u : NamedType). member_kind_of s (form.Named x) u settings) t)
          names) ≡ length names
      by None e = cc
      by (Some (DomainType b)) e = all_so is_variable s (Variable (form.Named x) settings) names refl
      by (Some (ClassType b)) e = cc

  pub variables_none : (f : TypeForm) → bounds_variables d f ≡ false
      → named_so is_variable (all_named s (declared_kind d s f settings) names) ≡ 0
  variables_none form.Boolean e = cc
  variables_none form.Integer e = refl
  variables_none (form.Named x) e = by (type_named d x.n) e
    where
      by : (t : Option NamedType) → is_some (option_and_then domain_body t) ≡ false
          → named_so is_variable
          (all_named s (option_map (λ (u : NamedType). member_kind_of s (form.Named x) u settings) t)
          names) ≡ 0
      by None e = refl
      by (Some (DomainType b)) e = cc
      by (Some (ClassType b)) e = none_so is_variable s (Inner b (Some s)) names refl

  -- a declaration gives no event
  pub events_none : (f : TypeForm) → named_so is_event (all_named s (declared_kind d s f settings) names) ≡ 0
  events_none form.Boolean = none_so is_event s (Variable form.Boolean settings) names refl
  events_none form.Integer = refl
  events_none (form.Named x) = by (type_named d x.n)
    where
      by : (t : Option NamedType) → named_so is_event
          (all_named s (option_map (λ (u : NamedType). member_kind_of s (form.Named x) u settings) t) names) ≡ 0
      by None = refl
      by (Some (DomainType b)) = none_so is_event s (Variable (form.Named x) settings) names refl
      by (Some (ClassType b)) = none_so is_event s (Inner b (Some s)) names refl
