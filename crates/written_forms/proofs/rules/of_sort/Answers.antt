use Rattle.std.proofs.Common.{sym, ◌∙◌}
use Rattle.written_forms.proofs.RuleForms as form
use Rattle.written_forms.proofs.rules.of_sort.Goals as goal

pub returns-in-None : goal.returns-in-None
returns-in-None g c = form.no_sort_there (g.T.Targets.target_at c.args.targets.now) c.args.path.now c.args.is_state
    (sym c.target.ensures ∙ c.in-None.is)

pub returns-then-sort-is_state : goal.returns-then-sort-is_state
returns-then-sort-is_state g c =
    form.sort_tested (g.T.Targets.target_at c.args.targets.now) c.args.path.now c.args.is_state c.in-Some.sort
    (sym c.target.ensures ∙ c.in-Some.is) c.if-sort-is_state.true

pub returns-else-sort-is_state : goal.returns-else-sort-is_state
returns-else-sort-is_state g c =
    form.sort_refused (g.T.Targets.target_at c.args.targets.now) c.args.path.now c.args.is_state c.in-Some.sort
    (sym c.target.ensures ∙ c.in-Some.is) c.if-sort-is_state.false
