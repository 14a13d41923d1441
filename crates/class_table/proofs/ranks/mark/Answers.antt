use Rattle.std.proofs.Common.{arith, sym, ap, ◌∙◌, length, length-append, [], ◌∷◌}
use Rattle.class_table.proofs.Ranked.{ranking_given, rank_given, marked_kept, unranked-set, unranked_there}
use Rattle.class_table.proofs.ranks.mark.Goals as goal

pub returns-clause-ranks : goal.returns-clause-ranks
returns-clause-ranks c = λ rows pending h.
    let u = unranked_there c.args.ranks.now c.args.number _ c.if-place-ranks.false (sym c.is_some.ensures ∙ c.if-is_some.false) in (
      ranking_given c.args.rank c.args.ranks.now c.args.number u rows c.args.open.now.items _ pending c.in_ok-push.ensures.items h,
      λ l. rank_given c.args.rank c.args.ranks.now c.args.number u,
      marked_kept c.args.rank c.args.ranks.now c.args.number u,
    )

pub returns-clause-left : goal.returns-clause-left
returns-clause-left c =
    let u = unranked_there c.args.ranks.now c.args.number _ c.if-place-ranks.false (sym c.is_some.ensures ∙ c.if-is_some.false) in
    let e = unranked-set c.args.ranks.now c.args.number c.args.rank u in
    let l = ap length c.in_ok-push.ensures.items ∙ length-append c.args.open.now.items (c.args.number ∷ []) in
    omega (arith, e, l)
