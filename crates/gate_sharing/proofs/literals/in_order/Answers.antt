use Rattle.std.proofs.Common.{subst, sym, List}
use Rattle.gate_sharing.specs.declared.literals.Literal.{Literal}
use Rattle.gate_sharing.proofs.Alls.{Same, permuted, found_as}
use Rattle.gate_sharing.proofs.literals.in_order.Goals as goal

pub returns : goal.returns
returns c =
    let sorted = c.sort.new.self.items in
    let same : Same c.args.literals.now sorted =
    subst (λ (z : List Literal). Same z sorted) c.in_ok-sorted.ensures.items
    (permuted c.in_ok-sorted.sorted.items sorted c.sort.ensures.permutation) in
    found_as c.args.literals.now c.deref.result.now c.distinct.result
    (subst (λ (z : List Literal). Same c.args.literals.now z) (sym c.deref.ensures.value) same) c.distinct.ensures
