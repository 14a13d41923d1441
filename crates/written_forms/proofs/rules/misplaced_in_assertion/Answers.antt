use Rattle.std.proofs.Common.{Bool, true, false, Some, sym, ap, ◌∙◌}
use Rattle.ar_syntax.proofs.Opened as opened
use Rattle.written_forms.specs.Breaches.{MisplacedInAssertion}
use Rattle.written_forms.specs.BreachesInside.{IsSort}
use Rattle.written_forms.proofs.RuleForms as form
use Rattle.written_forms.proofs.rules.misplaced_in_assertion.Goals as goal

pub returns-in-Skip : goal.returns-in-Skip
returns-in-Skip g c = form.never (MisplacedInAssertion (IsSort (g.T.Targets.target_at c.args.targets.now) true)
    (IsSort (g.T.Targets.target_at c.args.targets.now) false)) c.args.instr.now _ (opened.instr-skip _ c.in-Skip.is)
    (form.skip_asserted (g.T.Targets.target_at c.args.targets.now))

pub returns-in-All : goal.returns-in-All
returns-in-All g c = form.never (MisplacedInAssertion (IsSort (g.T.Targets.target_at c.args.targets.now) true)
    (IsSort (g.T.Targets.target_at c.args.targets.now) false)) c.args.instr.now _ (opened.instr-group _ _ c.in-All.is)
    (form.all_asserted (g.T.Targets.target_at c.args.targets.now) _)

pub returns-in-If : goal.returns-in-If
returns-in-If g c = form.never (MisplacedInAssertion (IsSort (g.T.Targets.target_at c.args.targets.now) true)
    (IsSort (g.T.Targets.target_at c.args.targets.now) false)) c.args.instr.now _ (opened.instr-if _ _ _ _ c.in-If.is)
    (form.if_asserted (g.T.Targets.target_at c.args.targets.now) _ _ _)

pub returns-in-Assign : goal.returns-in-Assign
returns-in-Assign g c = form.assign_asserted (g.T.Targets.target_at c.args.targets.now) c.args.instr.now
    c.in-Assign.path _ _ (opened.instr-assign _ _ _ c.in-Assign.is) c.of_sort.ensures

pub returns-in-Some-true : goal.returns-in-Some-true
returns-in-Some-true g c = form.left_asserted (g.T.Targets.target_at c.args.targets.now) c.args.instr.now c.in-Tie.left
    c.in-Tie.right (opened.instr-tie _ _ _ c.in-Tie.is)
    (sym c.target.ensures ∙ c.in-Some-true.is ∙ ap (λ (z : Bool). Some z) c.in-Some-true.field-0-test)

pub returns-in-Some-false : goal.returns-in-Some-false
returns-in-Some-false g c = form.right_asserted (g.T.Targets.target_at c.args.targets.now) c.args.instr.now
    c.in-Tie.left c.in-Tie.right _ (opened.instr-tie _ _ _ c.in-Tie.is)
    (sym c.target.ensures ∙ c.in-Some-false.is ∙ ap (λ (z : Bool). Some z) c.in-Some-false.field-0-test)
    c.of_sort-in-Some-false.ensures

pub returns-in-None : goal.returns-in-None
returns-in-None g c = form.none_asserted (g.T.Targets.target_at c.args.targets.now) c.args.instr.now c.in-Tie.left
    c.in-Tie.right (opened.instr-tie _ _ _ c.in-Tie.is) (sym c.target.ensures ∙ c.in-None.is)
