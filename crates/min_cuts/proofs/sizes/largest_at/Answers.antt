use Rattle.std.proofs.Common.{◌≤◌, ◌∙◌, subst, sym}
use Rattle.min_cuts.proofs.Sizing.{largest_from, small_from}
use Rattle.min_cuts.proofs.sizes.largest_at.Goals as goal

pub returns-in-Some-clause-is : goal.returns-in-Some-clause-is
returns-in-Some-clause-is c =
    c.max.ensures ∙ largest_from c.args.store.now c.args.table.now c.args.number.n c.in-Some.field-0-0.n c.in-Some.lo.n
    c.in-Some.hi.n c.in-Some.ensures.halves c.requires.long c.requires.table

pub returns-in-Some-clause-small : goal.returns-in-Some-clause-small
returns-in-Some-clause-small c =
    subst (λ z. z ≤ c.args.number.n) (sym c.max.ensures)
    (small_from c.args.store.now c.args.table.now c.args.number.n c.in-Some.field-0-0.n c.in-Some.lo.n c.in-Some.hi.n
    c.in-Some.ensures.halves c.requires.long c.requires.small)
