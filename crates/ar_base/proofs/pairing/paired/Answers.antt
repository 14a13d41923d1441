use Rattle.std.proofs.Common.{◌↔◌, ℕ, List, [], sym, subst}
use Rattle.std.proofs.lemmas.List.{take_all}
use Rattle.ar_base.specs.Lists.{IsOneOf}
use Rattle.ar_base.specs.Pairing.{IsPaired}
use Rattle.ar_base.proofs.Firsts.{paired_none, paired_more, sorted_ascends, sorted_same}
use Rattle.ar_base.proofs.pairing.paired.Goals as goal

pub loop-first-init : goal.loop-first-init
loop-first-init c = λ n. subst (λ (z : List ℕ). IsOneOf z n ↔ IsPaired c.args.pairs.now [] n)
    (sym c.new-all.ensures.items) (paired_none c.args.pairs.now n)

pub loop-first-preserved : goal.loop-first-preserved
loop-first-preserved c = paired_more c.args.pairs.now c.args.firsts.now c.loop-first.first-index 0
    c.loop-first.all.items c.add_run.new.all.items c.loop-first-test.true c.loop-first.invariant c.in_ok-add_run.ensures

pub returns-clause-ascends : goal.returns-clause-ascends
returns-clause-ascends c = sorted_ascends c.loop-first.all.items c.sort_unstable.new.self.items c.dedup.new.self.items
    c.sort_unstable.ensures.permutation c.sort_unstable.ensures.sorted c.dedup.ensures.filtered

pub returns-clause-each : goal.returns-clause-each
returns-clause-each c = λ n.
    let all = c.loop-first.all.items in
    let same = sorted_same all c.sort_unstable.new.self.items c.dedup.new.self.items c.sort_unstable.ensures.permutation
    c.dedup.ensures.filtered n in
    let are = subst (λ (z : List ℕ). IsOneOf all n ↔ IsPaired c.args.pairs.now z n)
    (take_all c.loop-first.first-index c.args.firsts.now c.loop-first-test.false) (c.loop-first.invariant n) in
    (λ o. are.0 (same.0 o), λ p. same.1 (are.1 p))
