use Rattle.std.proofs.Common.{◌≡◌, ◌+◌, ◌++◌, ◌∷◌, [], Bool, false, List, take, take_all, get_or, sym, subst}
use Rattle.std.proofs.lemmas.List.{take_more}
use Rattle.ar_base.specs.Numbers.{WayId}
use Rattle.way_flags.specs.Index.{AddsParts}
use Rattle.way_flags.proofs.Indexed.{parts_none, parts_more}
use Rattle.way_flags.proofs.index.add_each.Goals as goal

no_part : Bool × WayId
no_part = (false, record { n = 0; of = record {} })

pub loop-part-init : goal.loop-part-init
loop-part-init c = parts_none _ _

pub loop-part-preserved : goal.loop-part-preserved
unfolding no_part
loop-part-preserved c =
    let ps = c.args.parts.now in
    let i = c.loop-part.part-index in
    let q = get_or ps i no_part in
    let more : take (i + 1) ps ≡ take i ps ++ q ∷ [] = take_more ps i no_part c.loop-part-test.true in
    subst (λ (z : List (Bool × WayId)). AddsParts z c.args.n c.args.pairs.now.items c.push.new.self.items) (sym more)
    (parts_more (take i ps) q c.args.n c.args.pairs.now.items c.loop-part.pairs.items c.push.new.self.items
    c.loop-part.invariant c.in_ok-push.ensures.items)

pub returns : goal.returns
returns c = subst (λ (z : List (Bool × WayId)). AddsParts z c.args.n c.args.pairs.now.items c.loop-part.pairs.items)
    (take_all c.loop-part.part-index c.args.parts.now c.loop-part-test.false) c.loop-part.invariant
