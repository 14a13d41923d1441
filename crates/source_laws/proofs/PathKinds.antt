-- In models that agree paths name things of the same kinds, and expressions may name the same.
use Rattle.std.specs.Prelude.{◌≡◌, ℕ, Option, Some, option_map, option_and_then}
use Rattle.std.proofs.Common.{refl, sym, ap, ◌∙◌}
use Rattle.ar_base.proofs.Standing.{along_on}
use Rattle.ar_syntax.specs.declared.expressions.RawExpr.{RawExpr}
use Rattle.ar_syntax.specs.declared.expressions.RawForm.{out-RawForm}
use Rattle.ar_syntax.specs.declared.items.DomainBody.{DomainBody}
use Rattle.ar_syntax.specs.declared.members.Member.{Member, out-Member}
use Rattle.ar_syntax.specs.declared.members.TypeForm.{TypeForm}
use Rattle.ar_syntax.specs.declared.members.TypeForm.TheVariants as type_form
use Rattle.ar_syntax.specs.declared.paths.Path.{Path}
use Rattle.typed_expr.specs.declared.expr.ValueKind.{ValueKind}
use Rattle.parser_laws.specs.Expressions.{SamePath, SameExpr}
use Rattle.parser_laws.specs.Members.{SameMember}
use Rattle.parser_laws.specs.Models.{SameDomain, symbols, range}
use Rattle.parser_laws.specs.Opened.{SameForm, SameKind}
use Rattle.class_table.specs.Declaring.{NamedType, DomainType, ClassType}
use Rattle.class_table.specs.Members.{MemberKind, domain_body}
use Rattle.hierarchy.specs.Models.{RootedModel}
use Rattle.hierarchy.specs.Units.{UnitPath, Thing, names_at, numbers}
use Rattle.hierarchy.specs.Walks.{thing}
use Rattle.source_laws.specs.Named.{SameMeant}
use Rattle.source_laws.specs.Named as meant
use Rattle.source_laws.specs.Tables.{SameType, SameRooted}
use Rattle.source_laws.proofs.Leading.{kind_same, names_same}
use Rattle.source_laws.proofs.Named.{Both, neither, both, types_both}
use Rattle.source_laws.proofs.Settled.{other_of, passes_there}
use Rattle.source_meaning.specs.Kinds.{kind_of_body, kind_of_type, kind_of_member, IsOfKind, HasKindAt}
use Rattle.source_meaning.specs.Kinds as has
use Rattle.source_meaning.specs.Means.{is_valued}
use Rattle.source_meaning.specs.Tested.{Scope, MayName, NamesVariable, IsOneName, IsEarlierMember}
use Rattle.source_meaning.specs.Tested.MayName.{symbol, variable, parameter, own, earlier}
use Rattle.source_laws.proofs.BindingsMeant.{valued_same, path_leads_there, variable_found, valued_found, symbol_there}

body_kind_same : (x y : DomainBody) → SameDomain x y → kind_of_body x ≡ kind_of_body y
body_kind_same x y (range e) = ap kind_of_body e
body_kind_same x y (symbols v w e f i) = ap kind_of_body e ∙ sym (ap kind_of_body f)

domain_kinds : (t u : NamedType) → SameType t u
    → option_map kind_of_body (domain_body t) ≡ option_map kind_of_body (domain_body u)
domain_kinds (DomainType x) (DomainType y) s = ap (λ (k : ValueKind). Some k) (body_kind_same x y s)
domain_kinds (ClassType a) (ClassType b) s = refl
domain_kinds _ _ s = absurd s

type_kinds : {a b : Option NamedType} → Both SameType a b
    → option_map kind_of_body (option_and_then domain_body a) ≡ option_map kind_of_body (option_and_then domain_body b)
type_kinds neither = refl
type_kinds (both {a = t} {b = u} s) = domain_kinds t u s

one_name_there : {p q : Path} {x : ℕ} → SamePath p q → IsOneName p x → IsOneName q x
one_name_there s h = record { here = sym s.start ∙ h.here; single = ap numbers (sym s.names) ∙ h.single }

module _ (forms : (e f : RawExpr) → SameExpr e f → SameForm (out-RawForm e.form) (out-RawForm f.form))
    (kinds : (m n : Member) → SameMember m n → SameKind (out-Member m) (out-Member n)) (m n : RootedModel)
    (agree : SameRooted m n) where
  -- Kinds

  pub type_kind_same : (f : TypeForm) → kind_of_type m f ≡ kind_of_type n f
  type_kind_same type_form.Boolean = refl
  type_kind_same type_form.Integer = refl
  type_kind_same (type_form.Named x) = type_kinds (types_both m.declared n.declared agree.declared x.n)

  member_kind_same : {k l : MemberKind} → SameMeant k l → kind_of_member m k ≡ kind_of_member n l
  member_kind_same meant.inner = refl
  member_kind_same (meant.clone s) = refl
  member_kind_same (meant.alias s) = refl
  member_kind_same (meant.variable {t = t} s) = type_kind_same t
  member_kind_same (meant.parameter {t = t} s) = type_kind_same t
  member_kind_same meant.kept = refl
  member_kind_same meant.event = refl
  member_kind_same (meant.observer s) = refl

  pub of_kind_there : (t : Thing) (k : ValueKind) → IsOfKind m t k → IsOfKind n t k
  of_kind_there t k h =
      let o = other_of (kind_same kinds m n agree t.unit t.name) h.member h.is in
      record { member = o.0; is = o.1; kind = sym (member_kind_same o.2) ∙ h.kind }

  pub kind_there : (u : UnitPath) (p q : Path) (k : ValueKind) → SamePath p q → HasKindAt m u p k → HasKindAt n u q k
  kind_there u p q k s (has.thing t l h) =
      has.thing t (path_leads_there forms kinds m n agree s l) (of_kind_there t k h)
  kind_there u p q _ s (has.symbol i h) = has.symbol i (symbol_there forms kinds m n agree s h)

  -- Names

  earlier_there : {u : UnitPath} {x y : ℕ} → IsEarlierMember m u x y → IsEarlierMember n u x y
  earlier_there {u = u} h =
      let all = names_same kinds m n agree u in
      let f = along_on (names_at m u) (names_at n u) all h.j h.first h.is_first in
      let l = along_on (names_at m u) (names_at n u) all h.k h.later h.is_later in
      record {
        j = h.j;
        k = h.k;
        first = f.0;
        later = l.0;
        is_first = f.1;
        is_later = l.1;
        before = h.before;
        first_name = sym f.2.name ∙ h.first_name;
        later_name = sym l.2.name ∙ h.later_name;
      }

  pub may_name_there : {u : UnitPath} {c : Scope} (p q : Path) → SamePath p q → MayName m u c p → MayName n u c q
  may_name_there p q s (symbol k h) = symbol k (symbol_there forms kinds m n agree s h)
  may_name_there p q s (variable t h) = variable t (variable_found forms kinds m n agree s h)
  may_name_there p q s (parameter t h) = parameter t (valued_found forms kinds m n agree s h)
  may_name_there {u = u} p q s (own x i h) =
      own x (one_name_there s i) (passes_there kinds m n agree is_valued (λ k l r. valued_same r) (thing u x) h)
  may_name_there {u = u} p q s (earlier x i h e) =
      earlier x (one_name_there s i) (passes_there kinds m n agree is_valued (λ k l r. valued_same r) (thing u x) h)
      (earlier_there e)

  pub names_variable_there : {u : UnitPath} (p q : Path) → SamePath p q → NamesVariable m u p → NamesVariable n u q
  names_variable_there p q s h = record { thing = h.thing; finds = variable_found forms kinds m n agree s h.finds }
