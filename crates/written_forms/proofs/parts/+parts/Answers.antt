use Rattle.std.proofs.Common.{List, Option, Box, Global, arith, ◌∙◌, ap, subst}
use Rattle.ar_syntax.specs.declared.instructions.Instr.{Instr, out-Instr}
use Rattle.ar_syntax.specs.declared.instructions.Instr.TheOpen as instr
use Rattle.ar_syntax.proofs.Opened as opened
use Rattle.class_table.specs.Earliest.{IsEarliest}
use Rattle.class_table.proofs.Taken.{item_stands}
use Rattle.class_table.proofs.Looping.{loop_start, loop_next, loop_end}
use Rattle.written_forms.specs.PartsInside.{BreaksInside, BreaksInOne}
use Rattle.written_forms.proofs.PartForms as form
use Rattle.written_forms.proofs.parts.+parts.Goals as goal

pub first_breach-returns-in-Skip : goal.first_breach-returns-in-Skip
first_breach-returns-in-Skip g t c =
    form.skip_inside (g.R.Rule.breaks c.args.rule.now) c.args.instr.now c.broken-itself.result
    (opened.instr-skip _ c.in-Skip.is) c.broken-itself.ensures

pub first_breach-returns-in-Assign : goal.first_breach-returns-in-Assign
first_breach-returns-in-Assign g t c =
    form.assign_inside (g.R.Rule.breaks c.args.rule.now) c.args.instr.now _ _ c.broken-itself.result
    (opened.instr-assign _ _ _ c.in-Assign.is) c.broken-itself.ensures

pub first_breach-returns-in-Tie : goal.first_breach-returns-in-Tie
first_breach-returns-in-Tie g t c =
    form.tie_inside (g.R.Rule.breaks c.args.rule.now) c.args.instr.now _ _ c.broken-itself.result
    (opened.instr-tie _ _ _ c.in-Tie.is) c.broken-itself.ensures

pub first_breach-returns-in-All : goal.first_breach-returns-in-All
first_breach-returns-in-All g t c =
    let breaks = (g.R.Rule.breaks c.args.rule.now) in
    let h = subst (λ (is : List Instr). IsEarliest (BreaksInOne breaks is) c.first_in.result)
    c.deref-in-All.ensures.value c.first_in.ensures in
    form.all_inside breaks c.args.instr.now c.in-All.instrs _ _ _ (opened.instr-group _ _ c.in-All.is)
    c.broken-itself.ensures h c.earliest-in-All.ensures

pub first_in-loop-instr-init : goal.first_in-loop-instr-init
first_in-loop-instr-init g t c = loop_start _ _

pub first_in-loop-instr-preserved : goal.first_in-loop-instr-preserved
first_in-loop-instr-preserved g t c =
    let s = item_stands c.args.instrs.now c.loop-instr.instr-index c.instr-item.result (omega arith) c.instr-item.is in
    loop_next _ _ _ _ _ _ _ s c.loop-instr.invariant c.first_breach.ensures c.earliest-found.ensures

pub first_in-returns : goal.first_in-returns
first_in-returns g t c =
    let breaks = (g.R.Rule.breaks c.args.rule.now) in
    loop_end _ _ _ _ _ (omega arith) (form.one_to breaks c.args.instrs.now) (form.one_back breaks c.args.instrs.now)
    c.loop-instr.invariant

pub first_breach-returns-in-None : goal.first_breach-returns-in-None
first_breach-returns-in-None g t c =
    let breaks = (g.R.Rule.breaks c.args.rule.now) in
    let h = subst (λ (i : Instr). IsEarliest (BreaksInside breaks (out-Instr i)) c.first_breach.result) c.deref.ensures
    c.first_breach.ensures in
    form.one_inside breaks c.args.instr.now c.in-If.field-0 c.in-If.first _ _ _
    (opened.instr-if _ _ _ _ c.in-If.is
    ∙ ap (λ (z : Option (Box Instr Global)). instr.If c.in-If.field-0 c.in-If.first z) c.in-None.is)
    c.broken-itself.ensures h c.earliest.ensures

pub first_breach-returns-in-Some : goal.first_breach-returns-in-Some
first_breach-returns-in-Some g t c =
    let breaks = (g.R.Rule.breaks c.args.rule.now) in
    let h = subst (λ (i : Instr). IsEarliest (BreaksInside breaks (out-Instr i)) c.first_breach-in-Some.result)
    c.deref-in-Some.ensures c.first_breach-in-Some.ensures in
    let k = subst (λ (i : Instr). IsEarliest (BreaksInside breaks (out-Instr i)) c.first_breach-in-Some-2.result)
    c.deref-in-Some-2.ensures c.first_breach-in-Some-2.ensures in
    form.two_inside breaks c.args.instr.now c.in-If.field-0 c.in-If.first c.in-Some.other _ _ _ _ _
    (opened.instr-if _ _ _ _ c.in-If.is
    ∙ ap (λ (z : Option (Box Instr Global)). instr.If c.in-If.field-0 c.in-If.first z) c.in-Some.is)
    c.broken-itself.ensures h k c.earliest-branches.ensures c.earliest-in-Some.ensures
