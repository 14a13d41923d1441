use Rattle.std.proofs.Common.{sym, ◌∙◌}
use Rattle.ar_syntax.specs.declared.members.Member.{out-Member}
use Rattle.class_table.proofs.Taken.{item_stands}
use Rattle.unit_rules.specs.Rules.{declares}
use Rattle.unit_rules.proofs.WrongSettings.{none_wrong, form_right, form_wrong, no_domain, a_state, a_flow, no_names, one_place, default_right, first_of, none_first}
use Rattle.unit_rules.proofs.declarations.wrong.Goals as goal
use Rattle.unit_rules.proofs.declarations.wrong.Goals.{then-is_state-via-then-is_state, then-is_state-via-else-is_state+then-is_flow}

pub returns-in-Nested : goal.returns-in-Nested
returns-in-Nested c = λ d holds known. rw c.in-Nested.is (none_wrong d)

pub returns-then-not-is_domain : goal.returns-then-not-is_domain
unfolding out-Member denote.Hole.Carrier.out
returns-then-not-is_domain c = λ d holds known. rw c.in-Plain.is (rw c.in-Declare.is (
    let b = rw c.deref.ensures.value at (c.is_domain.ensures d) in
    form_right d _ (no_domain d c.in-Declare.type_name c.in-Declare.names c.in-Declare.settings
    (sym (b holds.types known) ∙ c.if-not-is_domain.true))))

pub returns-then-is_state : goal.returns-then-is_state
unfolding out-Member denote.Hole.Carrier.out
returns-then-is_state c = λ d holds known. rw c.in-Plain.is (rw c.in-Declare.is (
    elim c.then-is_state.branch [
      | then-is_state-via-then-is_state w ↦
          form_right d _ (a_state d c.in-Declare.type_name c.in-Declare.names c.in-Declare.settings
          (sym (rw c.deref-in-Declare.ensures.value at c.is_state.ensures) ∙ w.if-is_state.true))
      | then-is_state-via-else-is_state+then-is_flow w ↦
          form_right d _ (a_flow d c.in-Declare.type_name c.in-Declare.names c.in-Declare.settings
          (sym (rw w.deref-else-is_state.ensures.value at w.is_flow.ensures) ∙ w.if-is_flow.true))
    ]))

pub returns-in-Some : goal.returns-in-Some
unfolding out-Member denote.Hole.Carrier.out
returns-in-Some c = λ d holds known. rw c.in-Plain.is (rw c.in-Declare.is (
    let b = rw c.deref.ensures.value at (c.is_domain.ensures d) in
    let l = rw c.deref-in-Declare-2.ensures.value at c.in-Some.ensures.lookup.3.0 in
    let e = rw c.deref-in-Declare-2.ensures.value at c.in-Some.ensures.lookup.1 in
    let f = first_of c.in-Declare.names.items c.in-Some.name.now
    (item_stands c.in-Declare.names.items 0 c.in-Some.name.now l e) in
    form_wrong d _ c.in-Some.name.now.1
    (declares c.in-Some.name.now.0 f.0 (sym (b holds.types known) ∙ c.if-not-is_domain.false)
    (sym (rw c.deref-in-Declare.ensures.value at c.is_state.ensures) ∙ c.if-is_state.false)
    (sym (rw c.deref-else-is_state.ensures.value at c.is_flow.ensures) ∙ c.if-is_flow.false) f.1)
    (one_place d c.in-Declare.type_name c.in-Declare.names c.in-Declare.settings c.in-Some.name.now f.0 f.1)))

pub returns-in-None : goal.returns-in-None
unfolding out-Member denote.Hole.Carrier.out
returns-in-None c = λ d holds known. rw c.in-Plain.is (rw c.in-Declare.is (
    let l = rw c.deref-in-Declare-2.ensures.value at c.in-None.ensures.lookup.3 in
    form_right d _ (no_names d c.in-Declare.type_name c.in-Declare.names c.in-Declare.settings
    (none_first c.in-Declare.names.items l))))

pub returns-in_default : goal.returns-in_default
returns-in_default c = λ d holds known. rw c.in-Plain.is (default_right d c.in-Plain.member c.in_default.not-Declare)
