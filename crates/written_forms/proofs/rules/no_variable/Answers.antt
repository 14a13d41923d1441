use Rattle.std.proofs.Common.{sym, ◌∙◌}
use Rattle.written_forms.proofs.RuleForms as form
use Rattle.written_forms.proofs.rules.no_variable.Goals as goal

pub returns-in-Some : goal.returns-in-Some
returns-in-Some g c = form.target_named (g.T.Targets.target_at c.args.targets.now) c.args.path.now c.in-Some.field-0
    (sym c.target.ensures ∙ c.in-Some.is)

pub returns-in-None : goal.returns-in-None
returns-in-None g c = form.target_unnamed (g.T.Targets.target_at c.args.targets.now) c.args.path.now
    (sym c.target.ensures ∙ c.in-None.is)
