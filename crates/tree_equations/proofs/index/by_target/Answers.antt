use Rattle.std.proofs.Common.{◌<◌, length, take, refl, sym, ap, ◌∙◌, subst, List, ◌++◌, ◌∷◌, [], rules, arith, take_all, set, Vec, Global, ℕ}
use Rattle.std.proofs.lemmas.List.{take_more}
use Rattle.ar_base.proofs.Standing.{one_here, stands_item}
use Rattle.gts_core.specs.declared.system.Assign.{Assign}
use Rattle.tree_equations.specs.Index.{AreByTarget}
use Rattle.tree_equations.proofs.IndexLemmas.{target_start, target_next}
use Rattle.tree_equations.proofs.index.by_target.Goals as goal
use Rattle.flow_blocks.proofs.RowLemmas.{row_got}

pub loop-k-init : goal.loop-k-init
loop-k-init c =
    target_start c.args.count c.args.assigns.now c.in_ok-rows.rows.items c.in_ok-rows.ensures.long
    c.in_ok-rows.ensures.none

pub index_mut-requires : goal.index_mut-requires
index_mut-requires c =
    let a = c.index-assigns-k.result in
    let st = stands_item c.args.assigns.now c.loop-k.k a c.loop-k-test.true c.index-assigns-k.is in
    let under = c.requires.under a (one_here c.args.assigns.now c.loop-k.k a st) in
    let h : a.target.n < length c.loop-k.rows.items = omega (arith, under, c.loop-k.invariant.long) in
    search (rules, h)

pub loop-k-preserved : goal.loop-k-preserved
loop-k-preserved c =
    let xs = c.args.assigns.now in
    let k = c.loop-k.k in
    let a = c.index-assigns-k.result in
    let st = stands_item xs k a c.loop-k-test.true c.index-assigns-k.is in
    let under = c.requires.under a (one_here xs k a st) in
    let under_rows : a.target.n < length c.loop-k.rows.items = omega (arith, under, c.loop-k.invariant.long) in
    let more = take_more xs k a c.loop-k-test.true
    ∙ ap (λ (z : Assign). take k xs ++ z ∷ []) (sym c.index-assigns-k.is) in
    subst (λ (z : List Assign). AreByTarget c.args.count xs z (set c.loop-k.rows.items a.target.n c.push.new.self))
    (sym more)
    (target_next c.args.count xs (take k xs) k a c.loop-k.rows.items
    (set c.loop-k.rows.items a.target.n c.push.new.self) c.push.new.self k st under refl
    (c.in_ok-push.ensures.items ∙ ap (λ z. z ++ k ∷ []) (ap (λ (r : Vec ℕ Global). r.items) c.index_mut.ensures.value
    ∙ row_got c.loop-k.rows.items a.target.n c.index_mut.result.now under_rows)) refl
    c.loop-k.invariant)

pub returns : goal.returns
returns c =
    subst (λ (z : List Assign). AreByTarget c.args.count c.args.assigns.now z c.loop-k.rows.items)
    (take_all c.loop-k.k c.args.assigns.now c.loop-k-test.false) c.loop-k.invariant
