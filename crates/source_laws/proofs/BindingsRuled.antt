-- Models that agree break the rules of names at the same places.
use Rattle.std.specs.Prelude.{◌≡◌, ℕ, Bool, List}
use Rattle.std.proofs.Common.{refl, sym, subst, ◌∙◌}
use Rattle.ar_base.specs.Lists.{IsOneOf}
use Rattle.ar_base.specs.declared.places.Place.{Place}
use Rattle.ar_base.proofs.Standing.{along_on}
use Rattle.ar_syntax.specs.declared.expressions.RawExpr.{RawExpr}
use Rattle.ar_syntax.specs.declared.expressions.RawForm.{out-RawForm}
use Rattle.ar_syntax.specs.declared.instructions.Instr.{Instr, out-Instr}
use Rattle.ar_syntax.specs.declared.members.Member.{Member, out-Member}
use Rattle.ar_syntax.specs.declared.members.Member.TheOpen as member
use Rattle.ar_syntax.specs.declared.paths.Path.{Path}
use Rattle.parser_laws.specs.Expressions.{SamePath, SameExpr, SameInstr}
use Rattle.parser_laws.specs.Members.{SameMember}
use Rattle.parser_laws.specs.Opened.{SameForm, SameStep, SameKind}
use Rattle.class_table.specs.Declaring.{MemberForm}
use Rattle.class_table.specs.Members.{MemberKind}
use Rattle.hierarchy.specs.Listing.{forms_at}
use Rattle.hierarchy.specs.Models.{RootedModel}
use Rattle.hierarchy.specs.Settings.{is_state_variable, is_flow_variable}
use Rattle.hierarchy.specs.Units.{UnitPath}
use Rattle.hierarchy.specs.Walks.{thing, is_event}
use Rattle.source_laws.specs.Named.{SameMeant}
use Rattle.source_laws.specs.Named as meant
use Rattle.source_laws.specs.Tables.{SameRooted}
use Rattle.source_laws.proofs.Forced.{domains_there, in_force_same}
use Rattle.source_laws.proofs.Leading.{event_same, kind_same}
use Rattle.source_laws.proofs.Settled.{other_of, passes_there, state_variable_same, flow_variable_same}
use Rattle.source_laws.proofs.Turned.{path_turned}
use Rattle.source_meaning.specs.Kinds.{HasKindAt}
use Rattle.source_meaning.specs.Rules.{FindsNone, BreaksNaming, hides, part, way, BreaksKinds, type_of, BreaksValue, IsNot, Is, BreaksTargets, in_action, in_assertion, BreaksNameRule, l10, l11, l12, l13}
use Rattle.source_meaning.specs.Rules.BreaksNaming.{in_expression as expression_unnamed, in_instruction as instruction_unnamed}
use Rattle.source_meaning.specs.Rules.BreaksKinds.{in_expression as expression_mistyped, in_instruction as instruction_mistyped}
use Rattle.source_meaning.specs.Tested.{Scope, Everything, MayName, NamesVariable}
use Rattle.source_laws.proofs.Breaches.{misnames_there, mistypes_there, misplaced_action_there, misplaced_assertion_there}
use Rattle.source_laws.proofs.Forms.{as_hide, as_sync, form_there, way_there}
use Rattle.source_laws.proofs.PathKinds.{kind_there, may_name_there, names_variable_there}
use Rattle.source_laws.proofs.Levels.{level_there}
use Rattle.source_laws.proofs.BindingsMeant.{finds_there, variable_found, value_there}
use Rattle.source_laws.proofs.Tested.{in_action_there, in_assertion_there, in_some_there, readable_there, tested_there}
use Rattle.source_laws.proofs.Wrong.{of_kind, place_same, misnamed_there, mistyped_there}

type_same : {k l : MemberKind} → SameMeant k l → type_of k ≡ type_of l
type_same meant.inner = refl
type_same (meant.clone s) = refl
type_same (meant.alias s) = refl
type_same (meant.variable s) = refl
type_same (meant.parameter s) = refl
type_same meant.kept = refl
type_same meant.event = refl
type_same (meant.observer s) = refl

module _ (forms : (e f : RawExpr) → SameExpr e f → SameForm (out-RawForm e.form) (out-RawForm f.form))
    (steps : (i j : Instr) → SameInstr i j → SameStep (out-Instr i) (out-Instr j))
    (kinds : (m n : Member) → SameMember m n → SameKind (out-Member m) (out-Member n)) (m n : RootedModel)
    (agree : SameRooted m n) (back : SameRooted n m) (us : List UnitPath) where
  -- Names

  may_name_back : {u : UnitPath} {c : Scope} (p q : Path) → SamePath p q → MayName n u c q → MayName m u c p
  may_name_back p q s h = may_name_there forms kinds n m back q p (path_turned p q s) h

  variable_back : {u : UnitPath} (p q : Path) → SamePath p q → NamesVariable n u q → NamesVariable m u p
  variable_back p q s h = names_variable_there forms kinds n m back q p (path_turned p q s) h

  no_event_there : {u : UnitPath} {p q : Path} → SamePath p q → FindsNone m is_event u p → FindsNone n is_event u q
  no_event_there {p = p} {q = q} s none =
      λ t h. none t (finds_there forms kinds n m back is_event (λ k l r. event_same r) (path_turned p q s) h)

  naming_there : {at : Place} → BreaksNaming m us at → BreaksNaming n us at
  naming_there (expression_unnamed {u = u} c k e t h) =
      let o = tested_there forms steps kinds m n agree t in
      expression_unnamed c k o.written o.tested
      (misnamed_there forms (MayName m u c) (MayName n u c) may_name_back (level_there forms e o.written o.agree) h)
  naming_there (instruction_unnamed {u = u} i one s h) =
      let o = in_some_there forms steps kinds m n agree s in
      instruction_unnamed o.instr one o.stands
      (misnames_there forms (MayName m u Everything) (MayName n u Everything) (NamesVariable m u) (NamesVariable n u)
      may_name_back variable_back h o.agree)
  naming_there (hides {u = u} {p = p} one o none) =
      let f = form_there kinds m n agree u (member.Hide p) o in
      let h = as_hide f.agree in
      subst (λ (at : Place). BreaksNaming n us at) (sym h.agree.place)
      (hides one (subst (λ (g : MemberForm). IsOneOf (forms_at n u) g) h.is f.is_one) (no_event_there h.agree none))
  naming_there (part {u = u} x at parts p one o is none) =
      let f = form_there kinds m n agree u (member.Sync x at parts) o in
      let v = as_sync f.agree in
      let q = along_on parts.items v.parts.items v.agree is.place p is.stands in
      subst (λ (at : Place). BreaksNaming n us at) (sym q.2.event.place)
      (part x at v.parts q.0 one (subst (λ (g : MemberForm). IsOneOf (forms_at n u) g) v.is f.is_one)
      (record { place = is.place; stands = q.1 }) (no_event_there q.2.event none))
  naming_there (way {u = u} f x one o w not) =
      let g = form_there kinds m n agree u f o in
      way g.form x one g.is_one (way_there w g.agree)
      (λ h. not (passes_there kinds n m back is_event (λ k l r. event_same r) (thing u x.n) h))

  -- Kinds

  kinds_there : {at : Place} → BreaksKinds m us at → BreaksKinds n us at
  kinds_there (expression_mistyped {u = u} c k e t h) =
      let o = tested_there forms steps kinds m n agree t in
      expression_mistyped c k o.written o.tested
      (mistyped_there forms (HasKindAt m u) (HasKindAt n u) (kind_there forms kinds m n agree u) of_kind o.agree h)
  kinds_there (instruction_mistyped {u = u} i one s h) =
      let o = in_some_there forms steps kinds m n agree s in
      instruction_mistyped o.instr one o.stands
      (mistypes_there forms (HasKindAt m u) (HasKindAt n u) (kind_there forms kinds m n agree u) h o.agree)

  -- Values

  value_rule_there : {p : Place} → BreaksValue m us p → BreaksValue n us p
  value_rule_there h =
      let a = other_of (in_force_same kinds m n agree h.thing) h.attribute h.in_force in
      let k = other_of (kind_same kinds m n agree h.thing.unit h.thing.name) h.member h.is in
      record {
        thing = h.thing;
        has_value = readable_there forms steps kinds m n agree h.has_value;
        attribute = a.0;
        in_force = a.1;
        value = h.value;
        is_value = value_there forms kinds m n agree h.is_value;
        member = k.0;
        is = k.1;
        type = h.type;
        is_type = sym (type_same k.2) ∙ h.is_type;
        domain = h.domain;
        is_domain = domains_there m.declared n.declared agree.declared h.type h.domain h.is_domain;
        outside = h.outside;
        place = h.place ∙ place_same h.attribute.value a.0.value a.2.value;
      }

  -- Targets

  module _ (test : MemberKind → Bool) (one : (k l : MemberKind) → SameMeant k l → test k ≡ test l) where
    is_not_there : {u : UnitPath} (p q : Path) → SamePath p q → IsNot m test u p → IsNot n test u q
    is_not_there p q s h =
        let k = other_of (kind_same kinds m n agree h.thing.unit h.thing.name) h.member h.is in
        record {
          thing = h.thing;
          finds = variable_found forms kinds m n agree s h.finds;
          member = k.0;
          is = k.1;
          fails = sym (one h.member k.0 k.2) ∙ h.fails;
        }

    is_there : {u : UnitPath} (p q : Path) → SamePath p q → Is m test u p → Is n test u q
    is_there p q s h = record { thing = h.thing; finds = finds_there forms kinds m n agree test one s h.finds }

  targets_there : {at : Place} → BreaksTargets m us at → BreaksTargets n us at
  targets_there (in_action {u = u} i one s h) =
      let o = in_action_there forms steps kinds m n agree s in
      in_action o.instr one o.stands
      (misplaced_action_there (IsNot m is_state_variable u) (IsNot n is_state_variable u)
      (is_not_there is_state_variable (λ k l r. state_variable_same r)) h o.agree)
  targets_there (in_assertion {u = u} i one s h) =
      let o = in_assertion_there forms steps kinds m n agree s in
      in_assertion o.instr one o.stands
      (misplaced_assertion_there (IsNot m is_flow_variable u) (IsNot n is_flow_variable u) (Is m is_flow_variable u)
      (Is n is_flow_variable u) (is_not_there is_flow_variable (λ k l r. flow_variable_same r))
      (is_there is_flow_variable (λ k l r. flow_variable_same r)) h o.agree)

  -- the rules are broken at the same places
  pub name_rules_there : (r : ℕ) (p : Place) → BreaksNameRule m us r p → BreaksNameRule n us r p
  name_rules_there _ p (l10 h) = l10 (naming_there h)
  name_rules_there _ p (l11 h) = l11 (kinds_there h)
  name_rules_there _ p (l12 h) = l12 (value_rule_there h)
  name_rules_there _ p (l13 h) = l13 (targets_there h)
