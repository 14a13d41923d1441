-- The declarations of a model are those of each model that agrees with it.
use Rattle.std.specs.Prelude.{◌≡◌, Bool, true, false, List, Some}
use Rattle.std.proofs.Common.{refl, sym, ap, subst, ◌∙◌}
use Rattle.ar_base.specs.Lists.{Along, IsOneOf}
use Rattle.ar_base.specs.Lists as along
use Rattle.ar_base.proofs.Standing.{along_on}
use Rattle.ar_meaning.specs.Expand.{Member as Declared_member, EventDeclaration}
use Rattle.ar_meaning.specs.Found.{IsAnswer}
use Rattle.ar_meaning.specs.Systems as s
use Rattle.ar_syntax.specs.declared.expressions.RawExpr.{RawExpr}
use Rattle.ar_syntax.specs.declared.expressions.RawForm.{out-RawForm}
use Rattle.ar_syntax.specs.declared.instructions.Instr.{Instr, out-Instr}
use Rattle.ar_syntax.specs.declared.members.Member.{Member, out-Member}
use Rattle.ar_syntax.specs.declared.members.Part.{Part}
use Rattle.ar_syntax.specs.declared.members.Setting.{Setting}
use Rattle.ar_syntax.specs.declared.members.TypeForm.{TypeForm}
use Rattle.typed_expr.specs.declared.expr.Expr.{Expr}
use Rattle.parser_laws.specs.Expressions.{SameExpr, SameInstr}
use Rattle.parser_laws.specs.Members.{SameMember, SameSetting, SamePart}
use Rattle.parser_laws.specs.Opened.{SameForm, SameStep, SameKind}
use Rattle.class_table.specs.Declaring.{MemberForm}
use Rattle.class_table.specs.Members.{MemberKind, Variable, Observer}
use Rattle.hierarchy.specs.Listing.{hidden_paths}
use Rattle.hierarchy.specs.Models.{RootedModel}
use Rattle.hierarchy.specs.Units.{UnitPath, Thing}
use Rattle.hierarchy.specs.Walks.{Finds, is_variable, is_event, is_observer}
use Rattle.source_meaning.specs.Systems.{IsVariable, IsHidden, IsPart, IsMember, local, sync, IsEvent, IsObserver, Declarations, AreOf}
use Rattle.source_meaning.proofs.OneSystem.{along_both}
use Rattle.source_laws.specs.Named.{SameMeant}
use Rattle.source_laws.specs.Named as meant
use Rattle.source_laws.specs.Tables.{SameRooted}
use Rattle.source_laws.specs.Views.{SameForms}
use Rattle.source_laws.specs.Views as form
use Rattle.source_laws.proofs.Forced.{domains_there, assertions_same, hidden_paths_same, ways_there}
use Rattle.source_laws.proofs.Leading.{things_same, variable_same, event_same, observer_same, kind_same}
use Rattle.source_laws.proofs.Settled.{other_of, state_same}
use Rattle.source_laws.proofs.Turned.{rooted_turned}
use Rattle.source_laws.proofs.Acted.{sets_there, asserted_there}
use Rattle.source_laws.proofs.Levels.{level_there, acts_there}
use Rattle.source_laws.proofs.BindingsMeant.{finds_there, means_there, value_there}

-- Names by kind

-- a variable of this type whose settings agree
pub record VariableThere (t : TypeForm) (ss : List Setting) (k : MemberKind) : Type 0 where
  pub settings : List Setting
  pub is : k ≡ Variable t settings
  pub agree : Along SameSetting ss settings

pub as_variable : {t : TypeForm} {ss : List Setting} {k : MemberKind} → SameMeant (Variable t ss) k
    → VariableThere t ss k
as_variable (meant.variable {rs = rs} s) = record { settings = rs; is = refl; agree = s }

-- an observer of this type whose expression agrees
pub record ObserverThere (t : TypeForm) (e : RawExpr) (k : MemberKind) : Type 0 where
  pub written : RawExpr
  pub is : k ≡ Observer t written
  pub agree : SameExpr e written

pub as_observer : {t : TypeForm} {e : RawExpr} {k : MemberKind} → SameMeant (Observer t e) k → ObserverThere t e k
as_observer (meant.observer {f = f} s) = record { written = f; is = refl; agree = s }

along_mapped : {A B : Type 0} {R S : A → B → Type 0} → ((a : A) (b : B) → R a b → S a b) → {xs : List A}
    {ys : List B} → Along R xs ys → Along S xs ys
along_mapped f along.none = along.none
along_mapped f (along.one_and {a = a} {b = b} r more) = along.one_and (f a b r) (along_mapped f more)

-- an answer, where what it is about is the same
answer_there : {P Q : Type 0} → (P → Q) → (Q → P) → (b : Bool) → IsAnswer b P → IsAnswer b Q
answer_there there back true h = there h
answer_there there back false h = λ q. h (back q)

module _ (forms : (e f : RawExpr) → SameExpr e f → SameForm (out-RawForm e.form) (out-RawForm f.form))
    (steps : (i j : Instr) → SameInstr i j → SameStep (out-Instr i) (out-Instr j))
    (kinds : (m n : Member) → SameMember m n → SameKind (out-Member m) (out-Member n)) where
  -- Hidden events

  hidden_there : (m n : RootedModel) → SameRooted m n → (us : List UnitPath) (t : Thing) → IsHidden m us t
      → IsHidden n us t
  hidden_there m n agree us t h =
      let o = along_on (hidden_paths m us) (hidden_paths n us) (hidden_paths_same kinds m n agree us)
      h.is_clause.place h.clause h.is_clause.stands in
      record {
        clause = o.0;
        is_clause = record { place = h.is_clause.place; stands = o.1 };
        names = subst (λ (u : UnitPath). Finds n is_event u o.0.item t) o.2.0
            (finds_there forms kinds m n agree is_event (λ k l r. event_same r) o.2.1 h.names);
      }

  module _ (m n : RootedModel) (agree : SameRooted m n) where
    -- Variables

    variable_there : (us : List UnitPath) (t : Thing) (x : s.Variable Thing) → IsVariable m us t x
        → IsVariable n us t x
    variable_there us t x h =
        let o = other_of (kind_same kinds m n agree t.unit t.name) (Variable h.type h.settings) h.is in
        let v = as_variable o.2 in
        record {
          key = h.key;
          unit = h.unit;
          type = h.type;
          settings = v.settings;
          is = o.1 ∙ ap (λ (k : MemberKind). Some k) v.is;
          domain = h.domain;
          has_domain = domains_there m.declared n.declared agree.declared h.type h.domain h.has_domain;
          values = h.values;
          state = h.state ∙ state_same v.agree;
          value = value_there forms kinds m n agree h.value;
        }

    -- Events

    part_there : (u : UnitPath) (p q : Part) (b : Bool × Thing) → SamePart p q → IsPart m u p b → IsPart n u q b
    part_there u p q b s h = record {
      must = sym s.must ∙ h.must;
      event = finds_there forms kinds m n agree is_event (λ k l r. event_same r) s.event h.event;
    }

    member_there : (u : UnitPath) (f g : MemberForm) (b : Declared_member (s.Transition Thing) Thing) → IsMember m u f b
        → SameForms f g → IsMember n u g b
    member_there u _ _ _ (local d k) (form.local {e = e} {f = f} {i = i} {j = j} s r) =
        local (means_there forms kinds m n agree (level_there forms e f s) d)
        (sets_there forms steps kinds m n agree (acts_there steps i j r) k)
    member_there u _ _ _ (sync k) (form.sync s) = sync (along_both (part_there u) s k)

    event_there : (us : List UnitPath) (t : Thing) (d : EventDeclaration (s.Transition Thing) Thing)
        → IsEvent m us t d → IsEvent n us t d
    event_there us t d h = record {
      key = h.key;
      unit = h.unit;
      hidden = answer_there (hidden_there m n agree us t) (hidden_there n m (rooted_turned agree) us t) d.hidden
          h.hidden;
      members = along_both (λ f g b s k. member_there t.unit f g b k s) (ways_there kinds m n agree t) h.members;
    }

    -- Observers

    observer_there : (t : Thing) (e : Expr Thing) → IsObserver m t e → IsObserver n t e
    observer_there t e h =
        let o = other_of (kind_same kinds m n agree t.unit t.name) (Observer h.type h.written) h.is in
        let v = as_observer o.2 in
        record {
          type = h.type;
          written = v.written;
          is = o.1 ∙ ap (λ (k : MemberKind). Some k) v.is;
          means = means_there forms kinds m n agree (level_there forms h.written v.written v.agree) h.means;
        }

    -- the same variables, assertions, events and observers are those of the other model
    pub declarations_there : (us : List UnitPath) (d : Declarations) → AreOf m us d
        → AreOf n us (record d { model = n })
    declarations_there us d h = record {
      model = refl;
      units_are = h.units_are;
      variables = subst (λ (ts : List Thing). Along (IsVariable n us) ts d.net.variables)
          (things_same kinds m n agree is_variable (λ k l r. variable_same r) us)
          (along_mapped (variable_there us) h.variables);
      placed = h.placed;
      asserted = asserted_there forms steps kinds m n agree (assertions_same kinds m n agree us) h.asserted;
      assertions = h.assertions;
      places = h.places;
      events = subst (λ (ts : List Thing). Along (IsEvent n us) ts d.events)
          (things_same kinds m n agree is_event (λ k l r. event_same r) us)
          (along_mapped (event_there us) h.events);
      observers = subst (λ (ts : List Thing). Along (IsObserver n) ts d.observers)
          (things_same kinds m n agree is_observer (λ k l r. observer_same r) us)
          (along_mapped observer_there h.observers);
    }
