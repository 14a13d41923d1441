use Rattle.std.proofs.Common.{◌≡◌, ℕ, true, ◌∷◌, ◌++◌, [], List, Some, map, sym, ◌∙◌, ap, subst}
use Rattle.ar_syntax.specs.declared.members.TypeForm.{TypeForm}
use Rattle.ar_syntax.specs.declared.members.Word.{Word}
use Rattle.ar_syntax.specs.declared.members.Word.TheVariants as word
use Rattle.class_table.specs.Members.{Site, MemberKind, owned_at}
use Rattle.hierarchy.specs.Units.{names_at}
use Rattle.hierarchy.specs.Settings.{TargetWord, Named, target_word_of, is_state, settings_of, target_in, declared_in}
use Rattle.hierarchy.specs.Tie.{IsVariableNode}
use Rattle.hierarchy.specs.TypeDomains.{HasDomain}
use Rattle.hierarchy.specs.declared.tree.VarNode.{VarNode}
use Rattle.hierarchy.proofs.Apart.{named_back}
use Rattle.unit_rules.specs.Typing.{bounds_variables}
use Rattle.instantiate.specs.Values.{declared_type, last_target_word}
use Rattle.class_table.proofs.MemberNames.{none_of}
use Rattle.instantiate.proofs.Domained.{domain_is, domain_there}
use Rattle.instantiate.proofs.InForce.{node_site, no_some, variable_at, target_one, declared_one}
use Rattle.instantiate.proofs.variable_lists.add_variable.Goals as goal

pub returns-in_default : goal.returns-in_default
returns-in_default c = λ m units t h known tells kept so.
    let v = variable_at m units t c.args.node so kept in
    let none = none_of c.owned_at.result c.in_default.not-Some in
    let owned = rw (c.deref.ensures.value, none) at (c.owned_at.ensures m.declared) in
    let there = owned h.table.table.holds.bodies ∙ ap (λ (z : Site). owned_at m.declared z) (node_site so.node) in
    let z = ap declared_type there ∙ v.type_is in
    absurd (no_some z)

pub returns-in_default-type_of : goal.returns-in_default-type_of
returns-in_default-type_of c = λ m units t h known tells kept so.
    let v = variable_at m units t c.args.node so kept in
    let owned = rw c.deref.ensures.value at (c.in-Some.ensures m.declared) in
    let there : Some c.in-Some.owned.now ≡ owned_at m.declared so.given.site =
    owned h.table.table.holds.bodies ∙ ap (λ (z : Site). owned_at m.declared z) (node_site so.node) in
    let none = none_of c.type_of.result c.in_default-type_of.not-Some in
    absurd (no_some (sym none ∙ (c.type_of.ensures ∙ (ap declared_type there ∙ v.type_is))))

pub returns-in_default-2 : goal.returns-in_default-2
returns-in_default-2 c = λ m units t h known tells kept so.
    let v = variable_at m units t c.args.node so kept in
    let owned = rw c.deref.ensures.value at (c.in-Some.ensures m.declared) in
    let there : Some c.in-Some.owned.now ≡ owned_at m.declared so.given.site =
    owned h.table.table.holds.bodies ∙ ap (λ (z : Site). owned_at m.declared z) (node_site so.node) in
    let type : Some c.in-Some-type_of.form ≡ Some v.type =
    c.in-Some-type_of.ensures ∙ (ap declared_type there ∙ v.type_is) in
    let form : c.in-Some-type_of.form ≡ v.type = cc in
    absurd (domain_there _ (c.in_ok-domain.ensures m.declared h.table.table.holds known) c.in_default-2.is
    (subst (λ (f : TypeForm). bounds_variables m.declared f ≡ true) (sym form) v.bounds))

pub returns : goal.returns
returns c = λ m units t h known tells kept so.
    let g = so.given in
    let v = variable_at m units t c.args.node so kept in
    let site = node_site so.node in
    let owned = rw c.deref.ensures.value at (c.in-Some.ensures m.declared) in
    let there : Some c.in-Some.owned.now ≡ owned_at m.declared g.site =
    owned h.table.table.holds.bodies ∙ ap (λ (z : Site). owned_at m.declared z) site in
    let type : Some c.in-Some-type_of.form ≡ Some v.type =
    c.in-Some-type_of.ensures ∙ (ap declared_type there ∙ v.type_is) in
    let form : c.in-Some-type_of.form ≡ v.type = cc in
    let settings = c.settings_of.ensures ∙ (ap settings_of there ∙ v.settings_are) in
    let state = c.is_state-is_state.ensures ∙ ap is_state settings in
    let name : g.name ≡ c.args.node.name.n =
    (named_back (names_at m t.unit) t.name g so.node.is).1 ∙ sym so.node.name in
    let words = c.in_ok-push-2.ensures.items
    ∙ ap (λ (ws : List Word). ws ++ c.last_word.result ∷ [])
    (c.in_ok-push.ensures.items ∙ ap (λ (ws : List Word). ws ++ word.Name c.args.node.name ∷ [])
    c.new-target.ensures.items) in
    let last = sym (c.last_word.ensures ∙ ap last_target_word state) in
    let target : target_in g.name g.kind ≡ Some (map target_word_of c.push-2.new.self.items) =
    ap (λ (k : MemberKind). target_in g.name k) v.kind ∙ (target_one g.name v.type v.settings _ v.one
    ∙ (ap (λ (n : ℕ). Some (Named n ∷ (last_target_word (is_state v.settings) ∷ []))) name
    ∙ (ap (λ (w : TargetWord). Some (Named c.args.node.name.n ∷ (w ∷ []))) last
    ∙ ap (λ (ws : List Word). Some (map target_word_of ws)) (sym words)))) in
    let added : VarNode = record {
      node = c.args.node;
      domain = c.in-Some-2.domain;
      is_state = c.is_state-is_state.result;
      value = c.in_ok-value.value;
    } in
    let is : IsVariableNode m units t added = record {
      given = g;
      node = so.node;
      type = v.type;
      settings = v.settings;
      is = v.kind;
      domain = subst (λ (f : TypeForm). HasDomain m.declared f c.in-Some-2.domain) form
          (domain_is _ c.in-Some-2.domain (c.in_ok-domain.ensures m.declared h.table.table.holds known)
          c.in-Some-2.is);
      state = state;
      value = c.in_ok-value.ensures m units c.args.classes.now t g v.one.one.value h tells so.node target
          (ap (λ (k : MemberKind). declared_in t.unit g.site k) v.kind
          ∙ declared_one t.unit g.site v.type v.settings _ v.one);
    } in
    record { added = added; is = is; items = c.in_ok-push-3.ensures.items }
