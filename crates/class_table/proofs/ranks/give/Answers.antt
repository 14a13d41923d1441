use Rattle.std.proofs.Common.{arith, subst, List, ℕ, []}
use Rattle.class_table.specs.Ranks.{IsRanking}
use Rattle.class_table.proofs.Ranked.{next_pending, no_items}
use Rattle.class_table.proofs.ranks.give.Goals as goal

pub loop-next-init : goal.loop-next-init
loop-next-init c = λ rows t h. (c.in_ok-mark.ensures.ranks rows [] (rw c.new-open.ensures.items h)).0

pub loop-next-smaller : goal.loop-next-smaller
loop-next-smaller c = omega (
  arith,
  c.in_ok-mark_sources.ensures.left,
  c.in-Some.ensures.len,
  c.mark_sources.new.open.ok.0,
  c.pop.new.self.ok.0,
)

pub loop-next-preserved : goal.loop-next-preserved
loop-next-preserved c = λ rows t h. c.in_ok-mark_sources.ensures.ranks rows t
    (next_pending rows c.args.rank c.loop-next.ranks _ _ c.in-Some.next c.in-Some.ensures.items (c.loop-next.invariant rows t h))

pub returns : goal.returns
returns c = λ rows t h.
    let e = no_items c.loop-next.open.items
    (let l = c.in_default.ensures.cases.0 in let o = c.loop-next.open.ok.0 in omega (arith, l, o)) in
    subst (λ (xs : List ℕ). IsRanking rows c.args.rank c.loop-next.ranks xs []) e (c.loop-next.invariant rows t h)
