use Rattle.std.proofs.Common.{ℕ, arith}
use Rattle.gts_core.specs.declared.bound.DeclaredWay.{DeclaredWay}
use Rattle.sync_expand.specs.Links.{IsClimbOf}
use Rattle.ar_base.proofs.Standing.{one_here}
use Rattle.sync_expand.proofs.Placed.{item_stands}
use Rattle.sync_expand.proofs.FirstLinks.{loop_start, loop_next, loop_end}
use Rattle.sync_expand.proofs.links.climb_in.Goals as goal

pub loop-way-init : goal.loop-way-init
loop-way-init c = loop_start _ _

pub loop-way-preserved : goal.loop-way-preserved
loop-way-preserved c =
    let s = item_stands c.args.ways.now c.loop-way.way-index c.way-item.result (omega arith) c.way-item.is in
    loop_next _ _ _ _ _ _ _ s c.loop-way.invariant c.climb_of.ensures c.earlier-found.ensures

pub returns : goal.returns
returns c =
    loop_end c.args.ways.now (λ (k : ℕ) (w : DeclaredWay). IsClimbOf w c.args.event c.args.ranks.now c.args.gap) _ _ _
    (omega arith)
    (λ k w l s h. record { way = w; is_way = one_here _ k w s; climb = h })
    (λ l h. (h.is_way.place, record { item = h.way; stands = h.is_way.stands; has = h.climb }))
    c.loop-way.invariant
