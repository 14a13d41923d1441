use Rattle.std.proofs.Common.{ℕ, List, ◌<◌, ◌∷◌, [], length, subst, sym}
use Rattle.std.proofs.lemmas.Result.{on_ok_weaker}
use Rattle.ar_base.specs.Lists.{IsOneOf}
use Rattle.way_flags.specs.Renewing.{WaitsAt}
use Rattle.way_flags.proofs.Indexed.{above_within, above_added}
use Rattle.way_flags.proofs.waiting.add_above.Goals as goal

pub add_ways-requires : goal.add_ways-requires
add_ways-requires c = λ n o.
    let among = subst (λ (z : List ℕ). IsOneOf z n) c.deref-2.ensures.value o in
    subst (λ (z : List ℕ). n < length z) (sym c.deref.ensures.value)
    (above_within c.requires.0 c.args.index.now c.requires.1 (c.args.way.n ∷ []) n
    ((c.in_ok-ways.ensures.each n).0 among))

pub returns : goal.returns
returns c = on_ok_weaker c.add_ways.result
    (above_added c.args.index.now.above.pairs.items c.deref.result.now c.deref-2.result.now c.in_ok-ways.ways.items
    c.args.index.now.places.items c.args.way.n (WaitsAt c.args.waiting.now) (WaitsAt c.add_ways.new.waiting)
    c.deref-2.ensures.value c.deref.ensures.value c.in_ok-ways.ensures.each) c.add_ways.ensures
