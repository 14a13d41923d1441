use Rattle.std.proofs.Common.{◌≡◌, length, replicate, None, rules, ap, ◌∙◌, arith}
use Rattle.std.proofs.lemmas.List.{take_at}
use Rattle.class_table.proofs.Ranked.{ranking_start, ranking_next, ranking_end}
use Rattle.class_table.proofs.ranks.ranks.Goals as goal

pub loop-rank-init : goal.loop-rank-init
loop-rank-init c =
    let all : c.in_ok-ranks.ranks.items ≡ replicate c.len.result None =
    c.in_ok-ranks.ensures.items_if_clones_equal (search rules) in
    ranking_start _ c.len.result _ (c.len.ensures ∙ c.args.rows.ok.0) all

pub loop-rank-preserved : goal.loop-rank-preserved
loop-rank-preserved c =
    let e : length c.give.new.ranks ≡ c.loop-rank.ranks.len =
    (let a = c.give.auto.ranks in let b = c.deref_mut.ensures.len in let f = c.loop-rank.ranks.ok.0 in let g = ap length c.deref_mut.ensures.value in omega arith) in
    let t = rw c.deref.ensures.value at c.in_ok-sources.ensures in
    rw (take_at c.give.new.ranks _ _ e)
    (ranking_next _ _ _ (c.in_ok-give.ensures _
    (rw c.deref-in-loop-rank.ensures.value t) (rw c.deref_mut.ensures.value c.loop-rank.invariant)))

pub returns : goal.returns
returns c = ranking_end _ _ _ c.loop-rank.invariant
