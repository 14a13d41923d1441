use Rattle.std.proofs.Common.{ℕ, List, ◌<◌, length, subst, sym}
use Rattle.ar_base.specs.Lists.{IsOneOf}
use Rattle.way_flags.proofs.Indexed.{guard_within}
use Rattle.way_flags.proofs.waiting.first_waiting.Goals as goal

pub add_ways-requires : goal.add_ways-requires
add_ways-requires c = λ n o.
    let among = subst (λ (z : List ℕ). IsOneOf z n) c.deref-3.ensures.value o in
    subst (λ (z : List ℕ). n < length z) (sym c.deref-2.ensures.value)
    (guard_within c.requires.0 c.args.index.now c.requires.1 c.deref.result.now n
    ((c.in_ok-ways.ensures.each n).0 among))
