use Rattle.std.proofs.Common.{◌↔◌, ℕ, List, subst, take_all, ap, ◌∙◌}
use Rattle.ar_base.specs.Lists.{IsOneOf}
use Rattle.ar_base.specs.Pairing.{IsPaired}
use Rattle.flow_changes.specs.Changes.{changed_numbers}
use Rattle.replayer.proofs.TouchLemmas.{paired_touched}
use Rattle.replayer.proofs.touched.touched.Goals as goal

pub returns : goal.returns
returns c =
    let h = rw c.deref.ensures.value at c.in_ok-all.ensures.each in
    let named = λ (n : ℕ). subst (λ (z : List ℕ). IsOneOf c.in_ok-all.all.items n ↔ IsPaired c.args.pairs.now z n)
    (c.loop-variable.invariant ∙ ap changed_numbers
    (take_all c.loop-variable.variable-index c.args.variables.now c.loop-variable-test.false)) (h n) in
    paired_touched c.args.pairs.now c.args.variables.now c.in_ok-all.all.items c.in_ok-all.ensures.ascends named
