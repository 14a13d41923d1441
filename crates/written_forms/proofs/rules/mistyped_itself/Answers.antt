use Rattle.std.proofs.Common.{sym, ◌∙◌}
use Rattle.ar_syntax.proofs.Opened as opened
use Rattle.written_forms.specs.WrongInside.{NamesKind}
use Rattle.written_forms.specs.Breaches.{MistypesItself}
use Rattle.written_forms.proofs.RuleForms as form
use Rattle.written_forms.proofs.rules.mistyped_itself.Goals as goal

pub returns-in-Skip : goal.returns-in-Skip
returns-in-Skip g c = form.never (MistypesItself (NamesKind (g.T.Naming.kind_at c.args.targets.now))) c.args.instr.now _
    (opened.instr-skip _ c.in-Skip.is) (form.skip_typed (g.T.Naming.kind_at c.args.targets.now))

pub returns-in-All : goal.returns-in-All
returns-in-All g c = form.never (MistypesItself (NamesKind (g.T.Naming.kind_at c.args.targets.now))) c.args.instr.now _
    (opened.instr-group _ _ c.in-All.is) (form.all_typed (g.T.Naming.kind_at c.args.targets.now) _)

pub returns-in-None : goal.returns-in-None
returns-in-None g c = form.assign_untyped (g.T.Naming.kind_at c.args.targets.now) c.args.instr.now c.in-Assign.path
    c.in-Assign.value (opened.instr-assign _ _ _ c.in-Assign.is) (sym c.kind.ensures ∙ c.in-None.is)

pub returns-in-Some : goal.returns-in-Some
returns-in-Some g c = form.assign_mistyped (g.T.Naming.kind_at c.args.targets.now) c.args.instr.now c.in-Assign.path
    c.in-Assign.value c.in-Some.kind _ (opened.instr-assign _ _ _ c.in-Assign.is) (sym c.kind.ensures ∙ c.in-Some.is)
    c.first_mistyped.ensures

pub returns-then-differ : goal.returns-then-differ
returns-then-differ g c = form.tie_mistyped (g.T.Naming.kind_at c.args.targets.now) c.args.instr.now c.in-Tie.left
    c.in-Tie.right _ (opened.instr-tie _ _ _ c.in-Tie.is)
    (form.kinds_other (g.T.Naming.kind_at c.args.targets.now) c.in-Tie.left c.in-Tie.right c.kind-in-Tie.result
    c.kind-in-Tie-2.result c.kind-in-Tie.ensures c.kind-in-Tie-2.ensures (c.differ.ensures.0 c.if-differ.true))

pub returns-else-differ : goal.returns-else-differ
returns-else-differ g c = form.tie_mistyped (g.T.Naming.kind_at c.args.targets.now) c.args.instr.now c.in-Tie.left
    c.in-Tie.right _ (opened.instr-tie _ _ _ c.in-Tie.is)
    (form.kinds_same (g.T.Naming.kind_at c.args.targets.now) c.in-Tie.left c.in-Tie.right c.kind-in-Tie.result c.kind-in-Tie-2.result c.kind-in-Tie.ensures c.kind-in-Tie-2.ensures (λ h. let t = c.differ.ensures.1 h in let f = c.if-differ.false in cc))

pub returns-in-If : goal.returns-in-If
returns-in-If g c = form.if_mistyped (g.T.Naming.kind_at c.args.targets.now) c.args.instr.now c.in-If.test _ _ _
    (opened.instr-if _ _ _ _ c.in-If.is) c.first_mistyped-in-If.ensures
