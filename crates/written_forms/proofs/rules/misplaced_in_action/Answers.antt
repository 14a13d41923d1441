use Rattle.std.proofs.Common.{false}
use Rattle.ar_syntax.proofs.Opened as opened
use Rattle.written_forms.specs.Breaches.{MisplacedInAction}
use Rattle.written_forms.specs.BreachesInside.{IsSort}
use Rattle.written_forms.proofs.RuleForms as form
use Rattle.written_forms.proofs.rules.misplaced_in_action.Goals as goal

pub returns-in-Skip : goal.returns-in-Skip
returns-in-Skip g c = form.never (MisplacedInAction (IsSort (g.T.Targets.target_at c.args.targets.now) false))
    c.args.instr.now _ (opened.instr-skip _ c.in-Skip.is) (form.skip_acted (g.T.Targets.target_at c.args.targets.now))

pub returns-in-All : goal.returns-in-All
returns-in-All g c = form.never (MisplacedInAction (IsSort (g.T.Targets.target_at c.args.targets.now) false))
    c.args.instr.now _ (opened.instr-group _ _ c.in-All.is)
    (form.all_acted (g.T.Targets.target_at c.args.targets.now) _)

pub returns-in-If : goal.returns-in-If
returns-in-If g c = form.never (MisplacedInAction (IsSort (g.T.Targets.target_at c.args.targets.now) false))
    c.args.instr.now _ (opened.instr-if _ _ _ _ c.in-If.is)
    (form.if_acted (g.T.Targets.target_at c.args.targets.now) _ _ _)

pub returns-in-Assign : goal.returns-in-Assign
returns-in-Assign g c = form.assign_acted (g.T.Targets.target_at c.args.targets.now) c.args.instr.now c.in-Assign.path _
    _ (opened.instr-assign _ _ _ c.in-Assign.is) c.of_sort.ensures

pub returns-in-Tie : goal.returns-in-Tie
returns-in-Tie g c = form.tie_acted (g.T.Targets.target_at c.args.targets.now) c.args.instr.now c.in-Tie.left _
    (opened.instr-tie _ _ _ c.in-Tie.is)
