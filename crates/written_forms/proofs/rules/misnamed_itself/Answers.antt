use Rattle.ar_syntax.proofs.Opened as opened
use Rattle.written_forms.specs.WrongInside.{IsNamedPath}
use Rattle.written_forms.specs.Breaches.{MisnamesItself}
use Rattle.written_forms.specs.BreachesInside.{IsTarget}
use Rattle.written_forms.proofs.RuleForms as form
use Rattle.written_forms.proofs.rules.misnamed_itself.Goals as goal

pub returns-in-Skip : goal.returns-in-Skip
returns-in-Skip g c = form.never (MisnamesItself (IsNamedPath (g.T.Naming.kind_at c.args.targets.now))
    (IsTarget (g.T.Targets.target_at c.args.targets.now))) c.args.instr.now _ (opened.instr-skip _ c.in-Skip.is)
    (form.skip_named (IsNamedPath (g.T.Naming.kind_at c.args.targets.now)) (g.T.Targets.target_at c.args.targets.now))

pub returns-in-All : goal.returns-in-All
returns-in-All g c = form.never (MisnamesItself (IsNamedPath (g.T.Naming.kind_at c.args.targets.now))
    (IsTarget (g.T.Targets.target_at c.args.targets.now))) c.args.instr.now _ (opened.instr-group _ _ c.in-All.is)
    (form.all_named (IsNamedPath (g.T.Naming.kind_at c.args.targets.now)) (g.T.Targets.target_at c.args.targets.now) _)

pub returns-in-Assign : goal.returns-in-Assign
returns-in-Assign g c = form.assign_misnamed (IsNamedPath (g.T.Naming.kind_at c.args.targets.now))
    (g.T.Targets.target_at c.args.targets.now) c.args.instr.now c.in-Assign.path c.in-Assign.value _ _ _
    (opened.instr-assign _ _ _ c.in-Assign.is) c.no_variable.ensures c.first_misnamed.ensures c.earliest.ensures

pub returns-in-Tie : goal.returns-in-Tie
returns-in-Tie g c = form.tie_misnamed (IsNamedPath (g.T.Naming.kind_at c.args.targets.now))
    (g.T.Targets.target_at c.args.targets.now) c.args.instr.now c.in-Tie.left c.in-Tie.right _ _ _
    (opened.instr-tie _ _ _ c.in-Tie.is) c.no_variable-in-Tie.ensures c.no_variable-in-Tie-2.ensures
    c.earliest-in-Tie.ensures

pub returns-in-If : goal.returns-in-If
returns-in-If g c = form.if_misnamed (IsNamedPath (g.T.Naming.kind_at c.args.targets.now))
    (g.T.Targets.target_at c.args.targets.now) c.args.instr.now c.in-If.test _ _ _ (opened.instr-if _ _ _ _ c.in-If.is)
    c.first_misnamed-in-If.ensures
