use Rattle.std.proofs.Common.{ℕ, List, sym, subst}
use Rattle.ar_base.specs.Lists.{IsOneOf}
use Rattle.flow_reasons.proofs.Gathering.{bring_all, found_as}
use Rattle.flow_reasons.proofs.Readers.{rising, reader_below}
use Rattle.flow_reasons.proofs.rounds.next_bringing.Goals as goal

pub paired-requires : goal.paired-requires
paired-requires c = rising c.args.parts.now c.args.pairs.now c.requires.pairs

pub bringing-requires-clause-inside : goal.bringing-requires-clause-inside
bringing-requires-clause-inside c = λ n o.
    let h = (c.in_ok-readers.ensures.each n).0 (subst (λ (z : List ℕ). IsOneOf z n) c.deref.ensures.value o) in
    reader_below c.args.parts.now c.args.pairs.now c.requires.pairs h.first n h.pair

pub returns : goal.returns
returns c =
    let p = c.args.parts.now in
    found_as _ _ c.bringing.result
    (λ v h. bring_all p c.args.values.now c.args.marks.now c.deref.result.now v.items
    (λ n b. subst (λ (z : List ℕ). IsOneOf z n) (sym c.deref.ensures.value)
    ((c.in_ok-readers.ensures.each n).1 (let m = c.requires.named n b in record { first = m.variable; is_one = m.is_one; pair = c.requires.pairs.all m.variable n m.reads }))) h)
    c.bringing.ensures
