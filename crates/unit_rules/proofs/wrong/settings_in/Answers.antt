use Rattle.std.proofs.Common.{sym, ◌∙◌, ap}
use Rattle.class_table.specs.TablesInside.{site_of}
use Rattle.hierarchy.specs.Settings.{settings_of}
use Rattle.unit_rules.proofs.Searched.{no_declaration, no_settings, set_nowhere, set_there}
use Rattle.unit_rules.proofs.wrong.settings_in.Goals as goal

pub returns-in_err-site-clause-none : goal.returns-in_err-site-clause-none
returns-in_err-site-clause-none c = λ m units u holds i. rw c.from_residual.ensures
    (no_declaration m u (set_nowhere u c.args.outline.now.set_at i.set_at c.in_err-site.was))

pub returns-in_err-owned-clause-none : goal.returns-in_err-owned-clause-none
returns-in_err-owned-clause-none c = λ m units u holds i. rw c.from_residual-in_err-owned.ensures (
    let e = rw c.deref.ensures.value at (c.in_err-owned.ensures m.declared) in
    no_settings m u (site_of c.in_ok-site.site)
    (set_there u c.args.outline.now.set_at c.in_ok-site.site i.set_at c.in_ok-site.was) (sym (e holds.bodies)))

pub returns-clause-some : goal.returns-clause-some
returns-clause-some c = λ m units u holds i. (
  set_there u c.args.outline.now.set_at c.in_ok-site.site i.set_at c.in_ok-site.was,
  (let e = rw c.deref.ensures.value at (c.in_ok-owned.ensures m.declared) in c.settings_of.ensures ∙ ap settings_of (e holds.bodies)),
)
