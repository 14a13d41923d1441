use Rattle.std.proofs.Common.{refl}
use Rattle.ar_parser.proofs.NameLemmas.{numbering_next, popped}
use Rattle.ar_parser.proofs.numbering.numbered.Goals as goal

pub loop-token-preserved : goal.loop-token-preserved
loop-token-preserved c = numbering_next _ _ _ _ _ _ _ _ _ _ c.in_ok-name.name c.loop-token.invariant
    (popped c.in-Some.ensures.items refl) c.in_ok-name.ensures.found c.in_ok-push.ensures.items

pub loop-token-preserved-then-len-capacity : goal.loop-token-preserved-then-len-capacity
loop-token-preserved-then-len-capacity c =
    numbering_next _ _ _ _ _ _ _ _ _ _ c.in_ok-name.name c.loop-token.invariant
    (popped c.in-Some.ensures.items c.shrink_to_fit.ensures.items) c.in_ok-name.ensures.found c.in_ok-push.ensures.items
