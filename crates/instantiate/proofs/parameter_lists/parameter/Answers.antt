use Rattle.std.proofs.Common.{◌≡◌, ℕ, ◌∷◌, ◌++◌, [], List, Option, Some, None, map, sym, ◌∙◌, ap, subst}
use Rattle.ar_syntax.specs.declared.members.TypeForm.{TypeForm}
use Rattle.ar_syntax.specs.declared.members.Word.{Word}
use Rattle.ar_syntax.specs.declared.members.Word.TheVariants as word
use Rattle.class_table.specs.Members.{Site, MemberKind, owned_at}
use Rattle.class_table.specs.TablesInside.{site_of}
use Rattle.hierarchy.specs.Units.{names_at}
use Rattle.hierarchy.specs.Settings.{Named, target_word_of, target_in, declared_in}
use Rattle.hierarchy.specs.Tie.{HasParameterDomain, HasAttributeOf}
use Rattle.hierarchy.proofs.Apart.{named_back}
use Rattle.hierarchy.specs.Tie.HasParameterDomain.{kept as kept_domain}
use Rattle.instantiate.specs.Values.{parameter_type}
use Rattle.class_table.proofs.MemberNames.{none_of}
use Rattle.instantiate.proofs.Named.{given_at}
use Rattle.instantiate.proofs.Parametered.{parameter_owned, parameter_domain, no_kind, typed_kind, kept_kind}
use Rattle.instantiate.proofs.parameter_lists.parameter.Goals as goal

pub returns-in_default : goal.returns-in_default
returns-in_default c = λ m units t h known tells so.
    let g = so.given in
    let at = given_at m t.unit t.name g so.node.is in
    let site : site_of (c.args.node.source.body, c.args.node.source.member) ≡ g.site =
    ap (λ (n : ℕ). record { body = n; place = c.args.node.source.member }) so.node.source.body
    ∙ ap (λ (n : ℕ). record { body = g.site.body; place = n }) so.node.source.member in
    let none = none_of c.owned_at.result c.in_default.not-Some in
    let owned = rw (c.deref.ensures.value, none) at (c.owned_at.ensures m.declared) in
    let there = owned h.table.table.holds.bodies ∙ ap (λ (z : Site). owned_at m.declared z) site in
    absurd (no_kind g _ (parameter_owned m.declared g.site g so.passes (owned_at m.declared g.site) at.given)
    (sym (ap parameter_type there)))

pub returns-in-None : goal.returns-in-None
returns-in-None c = λ m units t h known tells so.
    let g = so.given in
    let at = given_at m t.unit t.name g so.node.is in
    let site : site_of (c.args.node.source.body, c.args.node.source.member) ≡ g.site =
    ap (λ (n : ℕ). record { body = n; place = c.args.node.source.member }) so.node.source.body
    ∙ ap (λ (n : ℕ). record { body = g.site.body; place = n }) so.node.source.member in
    let owned = rw c.deref.ensures.value at (c.in-Some.ensures m.declared) in
    let there = owned h.table.table.holds.bodies ∙ ap (λ (z : Site). owned_at m.declared z) site in
    absurd (no_kind g _ (parameter_owned m.declared g.site g so.passes (owned_at m.declared g.site) at.given)
    (sym (ap parameter_type there) ∙ sym c.in-None.ensures))

pub returns-in-Some-None : goal.returns-in-Some-None
returns-in-Some-None c = λ m units t h known tells so.
    let g = so.given in
    let at = given_at m t.unit t.name g so.node.is in
    let site : site_of (c.args.node.source.body, c.args.node.source.member) ≡ g.site =
    ap (λ (n : ℕ). record { body = n; place = c.args.node.source.member }) so.node.source.body
    ∙ ap (λ (n : ℕ). record { body = g.site.body; place = n }) so.node.source.member in
    let owned = rw c.deref.ensures.value at (c.in-Some.ensures m.declared) in
    let there = owned h.table.table.holds.bodies ∙ ap (λ (z : Site). owned_at m.declared z) site in
    let type : parameter_type (owned_at m.declared g.site) ≡ Some None =
    sym (ap parameter_type there) ∙ (sym c.type_of.ensures
    ∙ (c.in-Some-None.is ∙ ap (λ (f : Option TypeForm). Some f) c.in-Some-None.field-0-is)) in
    let kind = kept_kind g _ (parameter_owned m.declared g.site g so.passes (owned_at m.declared g.site) at.given)
    type in
    rw c.untyped-in-Some-None.ensures (record {
      given = g;
      node = so.node;
      domain = subst (λ (z : MemberKind). HasParameterDomain m.declared z None) (sym kind) kept_domain;
      value = subst (λ (z : MemberKind). HasAttributeOf m units t z
          (record { from = c.args.node.unit; source = c.args.node.source })) (sym kind) tt;
    })

pub returns-in_ok-value-in-Some-Some : goal.returns-in_ok-value-in-Some-Some
returns-in_ok-value-in-Some-Some c = λ m units t h known tells so.
    let g = so.given in
    let at = given_at m t.unit t.name g so.node.is in
    let site : site_of (c.args.node.source.body, c.args.node.source.member) ≡ g.site =
    ap (λ (n : ℕ). record { body = n; place = c.args.node.source.member }) so.node.source.body
    ∙ ap (λ (n : ℕ). record { body = g.site.body; place = n }) so.node.source.member in
    let owned = rw c.deref.ensures.value at (c.in-Some.ensures m.declared) in
    let there = owned h.table.table.holds.bodies ∙ ap (λ (z : Site). owned_at m.declared z) site in
    let type : parameter_type (owned_at m.declared g.site) ≡ Some (Some c.in-Some-Some.form) =
    sym (ap parameter_type there) ∙ (sym c.type_of.ensures
    ∙ (c.in-Some-Some.is ∙ ap (λ (f : Option TypeForm). Some f) c.in-Some-Some.field-0-is)) in
    let kind = typed_kind g _ c.in-Some-Some.form
    (parameter_owned m.declared g.site g so.passes (owned_at m.declared g.site) at.given) type in
    let k = kind.1 in
    let name : g.name ≡ c.args.node.name.n =
    (named_back (names_at m t.unit) t.name g so.node.is).1 ∙ sym so.node.name in
    let words = c.in_ok-push-in-Some-Some.ensures.items
    ∙ ap (λ (ws : List Word). ws ++ word.Name c.args.node.name ∷ []) c.new-target.ensures.items in
    let target : target_in g.name g.kind ≡ Some (map target_word_of c.push.new.self.items) =
    ap (λ (z : MemberKind). target_in g.name z) k
    ∙ (ap (λ (n : ℕ). Some (Named n ∷ [])) name ∙ ap (λ (ws : List Word). Some (map target_word_of ws)) (sym words)) in
    record {
      given = g;
      node = so.node;
      domain = subst (λ (z : MemberKind). HasParameterDomain m.declared z c.in_ok-domain-in-Some-Some.domain) (sym k)
          (parameter_domain h.table.kept t.unit t.name g _ kind.0 _ so.node.is k
          (c.in_ok-domain-in-Some-Some.ensures m.declared h.table.table.holds known));
      value = subst (λ (z : MemberKind). HasAttributeOf m units t z c.in_ok-value-in-Some-Some.value) (sym k)
          (c.in_ok-value-in-Some-Some.ensures m units c.args.classes.now t g kind.0 h tells so.node target
          (ap (λ (z : MemberKind). declared_in t.unit g.site z) k));
    }
