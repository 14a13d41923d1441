use Rattle.std.proofs.Common.{ap, refl, sym, ◌∙◌}
use Rattle.unit_rules.specs.Counting.{capped}
use Rattle.unit_rules.proofs.Forms.{sum_size, choice_size}
use Rattle.unit_rules.proofs.expressions.+sized.Goals as goal

pub expr_size-returns-in-Sum : goal.expr_size-returns-in-Sum
expr_size-returns-in-Sum t c =
    let h = rw c.deref-in-Sum.ensures.value at c.summed.ensures in
    c.both-in-Sum.ensures 1 _ refl h ∙ ap capped (sym (sum_size c.args.expr.now c.in-Sum.parts c.in-Sum.is))

pub expr_size-returns-in-Choose : goal.expr_size-returns-in-Choose
expr_size-returns-in-Choose t c =
    let h = rw c.deref-in-Choose.ensures.value at c.chosen.ensures in
    let k = rw c.deref-in-Choose-2.ensures at c.expr_size-in-Choose.ensures in
    c.both-in-Choose-2.ensures 1 _ refl (c.both-in-Choose.ensures _ _ h k)
    ∙ ap capped (sym (choice_size c.args.expr.now c.in-Choose.cases c.in-Choose.other c.in-Choose.is))
