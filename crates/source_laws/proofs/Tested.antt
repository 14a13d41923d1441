-- In models that agree the same expressions and instructions are tested.
use Rattle.std.specs.Prelude.{ℕ, List, Option, Some}
use Rattle.std.proofs.Common.{inl, inr, sym, ap, subst, ◌∙◌}
use Rattle.ar_base.specs.Lists.{IsOneOf}
use Rattle.ar_syntax.specs.declared.expressions.RawExpr.{RawExpr}
use Rattle.ar_syntax.specs.declared.expressions.RawForm.{out-RawForm}
use Rattle.ar_syntax.specs.declared.instructions.Instr.{Instr, out-Instr}
use Rattle.ar_syntax.specs.declared.members.Member.{Member, out-Member}
use Rattle.ar_syntax.specs.declared.members.Member.TheOpen as member
use Rattle.typed_expr.specs.declared.expr.ValueKind.{ValueKind}
use Rattle.parser_laws.specs.Expressions.{SameExpr, SameInstr}
use Rattle.parser_laws.specs.Members.{SameMember}
use Rattle.parser_laws.specs.Opened.{SameForm, SameStep, SameKind}
use Rattle.class_table.specs.Declaring.{MemberForm}
use Rattle.class_table.specs.Members.{MemberKind, Observer}
use Rattle.hierarchy.specs.Listing.{forms_at}
use Rattle.hierarchy.specs.Models.{RootedModel}
use Rattle.hierarchy.specs.Units.{UnitPath, Thing}
use Rattle.hierarchy.specs.Walks.{is_variable, is_parameter, is_observer}
use Rattle.source_laws.specs.Tables.{SameRooted}
use Rattle.source_laws.proofs.Forced.{in_force_same}
use Rattle.source_laws.proofs.Leading.{things_same, variable_same, parameter_same, observer_same, kind_same}
use Rattle.source_laws.proofs.Settled.{other_of, passes_there}
use Rattle.written_forms.specs.Parts.{InstrForm}
use Rattle.source_meaning.specs.Means.{is_valued}
use Rattle.source_meaning.specs.Tested.{InAction, InAssertion, InSome, Scope, scope_of, IsReadable, of_variable, of_parameter, Tested, value, observer, guard}
use Rattle.source_laws.proofs.Breaches.{part_there}
use Rattle.source_laws.proofs.Carried.{as_observer}
use Rattle.source_laws.proofs.Forms.{as_local, as_assert, form_there}
use Rattle.source_laws.proofs.PathKinds.{type_kind_same, of_kind_there}
use Rattle.source_laws.proofs.Levels.{SameActs, acts_there}
use Rattle.source_laws.proofs.BindingsMeant.{valued_same}

-- an instruction that agrees stands where P says
pub record InstrThere (P : InstrForm → Type 0) (i : InstrForm) : Type 0 where
  pub instr : InstrForm
  pub stands : P instr
  pub agree : SameActs i instr

-- an expression that agrees is tested in the same way
pub record TestedThere (m : RootedModel) (us : List UnitPath) (u : UnitPath) (c : Scope) (k : ValueKind)
    (e : RawExpr) : Type 0 where
  pub written : RawExpr
  pub tested : Tested m us u c k written
  pub agree : SameExpr e written

module _ (forms : (e f : RawExpr) → SameExpr e f → SameForm (out-RawForm e.form) (out-RawForm f.form))
    (steps : (i j : Instr) → SameInstr i j → SameStep (out-Instr i) (out-Instr j))
    (kinds : (m n : Member) → SameMember m n → SameKind (out-Member m) (out-Member n)) (m n : RootedModel)
    (agree : SameRooted m n) where
  -- Instructions

  pub in_action_there : {u : UnitPath} {i : InstrForm} → InAction m u i → InstrThere (InAction n u) i
  in_action_there {u = u} h =
      let o = form_there kinds m n agree u (member.Local h.event h.at h.guard h.action) h.is_member in
      let l = as_local o.agree in
      let p = part_there steps (acts_there steps h.action l.action l.same_action) h.is_part in
      record {
        instr = p.part;
        stands = record {
          event = h.event;
          at = h.at;
          guard = l.guard;
          action = l.action;
          is_member = subst (λ (f : MemberForm). IsOneOf (forms_at n u) f) l.is o.is_one;
          is_part = p.is_part;
        };
        agree = p.agree;
      }

  pub in_assertion_there : {u : UnitPath} {i : InstrForm} → InAssertion m u i → InstrThere (InAssertion n u) i
  in_assertion_there {u = u} h =
      let o = form_there kinds m n agree u (member.Assert h.whole) h.is_member in
      let l = as_assert o.agree in
      let p = part_there steps (acts_there steps h.whole l.instr l.agree) h.is_part in
      record {
        instr = p.part;
        stands = record {
          whole = l.instr;
          is_member = subst (λ (f : MemberForm). IsOneOf (forms_at n u) f) l.is o.is_one;
          is_part = p.is_part;
        };
        agree = p.agree;
      }

  pub in_some_there : {u : UnitPath} {i : InstrForm} → InSome m u i → InstrThere (InSome n u) i
  in_some_there (inl h) =
      let o = in_action_there h in record { instr = o.instr; stands = inl o.stands; agree = o.agree }
  in_some_there (inr h) =
      let o = in_assertion_there h in record { instr = o.instr; stands = inr o.stands; agree = o.agree }

  -- Expressions

  pub readable_there : {us : List UnitPath} {t : Thing} → IsReadable m us t → IsReadable n us t
  readable_there {us = us} {t = t} (of_variable o) =
      of_variable (subst (λ (ts : List Thing). IsOneOf ts t)
      (things_same kinds m n agree is_variable (λ k l r. variable_same r) us) o)
  readable_there {us = us} {t = t} (of_parameter o h) =
      of_parameter (subst (λ (ts : List Thing). IsOneOf ts t)
      (things_same kinds m n agree is_parameter (λ k l r. parameter_same r) us) o)
      (passes_there kinds m n agree is_valued (λ k l r. valued_same r) t h)

  pub tested_there : {us : List UnitPath} {u : UnitPath} {c : Scope} {k : ValueKind} {e : RawExpr}
      → Tested m us u c k e → TestedThere n us u c k e
  tested_there {us = us} (value {k = k} t a r i h) =
      let o = other_of (in_force_same kinds m n agree t) a i in
      record {
        written = o.0.value;
        tested = subst (λ (u : UnitPath). Tested n us u (scope_of t.name a.setting) k o.0.value) (sym o.2.unit)
            (subst (λ (s : Option ℕ). Tested n us o.0.unit (scope_of t.name s) k o.0.value) (sym o.2.setting)
            (value t o.0 (readable_there r) o.1 (of_kind_there forms kinds m n agree t k h)));
        agree = o.2.value;
      }
  tested_there {us = us} (observer {e = e} {k = k} t type o i h) =
      let p = other_of (kind_same kinds m n agree t.unit t.name) (Observer type e) i in
      let v = as_observer p.2 in
      record {
        written = v.written;
        tested = observer t type
            (subst (λ (ts : List Thing). IsOneOf ts t)
            (things_same kinds m n agree is_observer (λ k l r. observer_same r) us) o)
            (p.1 ∙ ap (λ (l : MemberKind). Some l) v.is) (sym (type_kind_same forms kinds m n agree type) ∙ h);
        agree = v.agree;
      }
  tested_there {us = us} (guard {u = u} {e = e} x at action one o) =
      let p = form_there kinds m n agree u (member.Local x at e action) o in
      let l = as_local p.agree in
      record {
        written = l.guard;
        tested = guard x at l.action one (subst (λ (f : MemberForm). IsOneOf (forms_at n u) f) l.is p.is_one);
        agree = l.same_guard;
      }
