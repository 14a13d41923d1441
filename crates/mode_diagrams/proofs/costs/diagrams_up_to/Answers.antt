use Rattle.std.proofs.Common.{length, sym, ap, ◌∙◌, subst}
use Rattle.mode_nodes.specs.Bounds.{costs_of}
use Rattle.mode_diagrams.specs.Costs.{AreCostsOf, IsEnoughFor}
use Rattle.mode_diagrams.proofs.Sizes.{enough_for_all, enough_for_few}
use Rattle.mode_diagrams.proofs.costs.diagrams_up_to.Goals as goal

pub returns-in-None-clause-enough : goal.returns-in-None-clause-enough
returns-in-None-clause-enough c =
    subst (λ order. IsEnoughFor order c.args.trees.now c.new-in-None.result) (sym c.in-None.is)
    (enough_for_all c.args.trees.now c.new-in-None.result
    (c.new-in-None.ensures.costs ∙ ap costs_of c.new.ensures.items))

pub returns-in_ok-costs-in-Some-clause-enough : goal.returns-in_ok-costs-in-Some-clause-enough
returns-in_ok-costs-in-Some-clause-enough c =
    let trees = c.args.trees.now in
    subst (λ order. IsEnoughFor order trees c.new-in-Some.result) (sym c.in-Some.is)
    (enough_for_few trees c.new-in-Some.result c.in-Some.most
    (subst (AreCostsOf trees (length trees)) (sym c.new-in-Some.ensures.costs) c.in_ok-costs-in-Some.ensures)
    c.requires.apart c.new-in-Some.ensures.most)
