use Rattle.std.proofs.Common.{◌≡◌, ◌<◌, ◌≤◌, ℕ, List, Vec, Global, length, get_or, subst, sym, ◌∙◌, arith}
use Rattle.mode_search.specs.declared.kept.KeptWay.{KeptWay}
use Rattle.ar_base.proofs.Standing.{stands_item}
use Rattle.mode_search.specs.Reached.{AreWaysOfParts, AreDifferentWays, IsReach}
use Rattle.mode_search.specs.Rows.{variable_ways, HaveVariablesBelow}
use Rattle.mode_search.specs.Reaches.{AreReaches}
use Rattle.mode_search.proofs.Usable.{all_below, row_inside, row_apart, reaches_start, reaches_more}
use Rattle.mode_search.proofs.reaches.all_reached.Goals as goal

pub rows-requires : goal.rows-requires
rows-requires c =
    let e : length c.args.parts.now.variables.items ≡ c.len.result =
    omega (arith, c.len.ensures, c.args.parts.now.variables.ok.0) in
    subst (λ (n : ℕ). HaveVariablesBelow n c.args.kept.now) e
    (all_below c.args.parts.now c.requires.sound c.args.kept.now c.requires.kept)

pub loop-n-init : goal.loop-n-init
loop-n-init c = reaches_start c.args.parts.now c.args.kept.now c.new-reaches.result.items c.new-reaches.ensures.items

pub reached-requires-clause-inside : goal.reached-requires-clause-inside
reached-requires-clause-inside c =
    let items = c.deref-row-items.ensures.value in
    let below = subst (λ (z : List (Vec KeptWay Global)). c.loop-n.n < length z) items c.loop-n-test.true in
    let is = subst (λ (z : List (Vec KeptWay Global)). c.row-item.result ≡ get_or z c.loop-n.n c.row-item.result) items
    c.row-item.is in
    let row = c.in_ok-rows.ensures.row c.loop-n.n c.row-item.result
    (stands_item c.in_ok-rows.rows.items c.loop-n.n c.row-item.result below is) in
    subst (λ (z : List KeptWay). AreWaysOfParts c.args.parts.now z) (sym (c.deref.ensures.value ∙ row))
    (row_inside c.args.parts.now c.requires.sound c.args.kept.now c.requires.kept c.loop-n.n)

pub reached-requires-clause-apart : goal.reached-requires-clause-apart
reached-requires-clause-apart c =
    let items = c.deref-row-items.ensures.value in
    let below = subst (λ (z : List (Vec KeptWay Global)). c.loop-n.n < length z) items c.loop-n-test.true in
    let is = subst (λ (z : List (Vec KeptWay Global)). c.row-item.result ≡ get_or z c.loop-n.n c.row-item.result) items
    c.row-item.is in
    let row = c.in_ok-rows.ensures.row c.loop-n.n c.row-item.result
    (stands_item c.in_ok-rows.rows.items c.loop-n.n c.row-item.result below is) in
    subst (λ (z : List KeptWay). AreDifferentWays z) (sym (c.deref.ensures.value ∙ row))
    (row_apart c.args.parts.now c.requires.sound c.args.kept.now c.requires.kept c.loop-n.n)

pub loop-n-preserved : goal.loop-n-preserved
loop-n-preserved c =
    let items = c.deref-row-items.ensures.value in
    let below = subst (λ (z : List (Vec KeptWay Global)). c.loop-n.n < length z) items c.loop-n-test.true in
    let is = subst (λ (z : List (Vec KeptWay Global)). c.row-item.result ≡ get_or z c.loop-n.n c.row-item.result) items
    c.row-item.is in
    let row = c.in_ok-rows.ensures.row c.loop-n.n c.row-item.result
    (stands_item c.in_ok-rows.rows.items c.loop-n.n c.row-item.result below is) in
    let r = subst (λ (z : List KeptWay). IsReach c.args.parts.now c.new.result.n z c.in_ok-reach.reach)
    (c.deref.ensures.value ∙ row) c.in_ok-reach.ensures in
    reaches_more c.args.parts.now c.requires.sound c.args.kept.now c.requires.kept c.loop-n.n c.loop-n.reaches.items
    c.push.new.self.items c.in_ok-reach.reach c.loop-n.invariant
    (subst (λ (n : ℕ). IsReach c.args.parts.now n (variable_ways c.loop-n.n c.args.kept.now) c.in_ok-reach.reach)
    c.new.ensures r) c.in_ok-push.ensures.items

pub returns : goal.returns
returns c =
    let past = subst (λ (z : List (Vec KeptWay Global)). length z ≤ c.loop-n.n) c.deref-row-items.ensures.value
    c.loop-n-test.false in
    let within = subst (λ (z : List (Vec KeptWay Global)). c.loop-n.n ≤ length z) c.deref-row-items.ensures.value
    c.loop-n.auto.n-end in
    let e : c.loop-n.n ≡ length c.args.parts.now.variables.items =
    omega (arith, past, within, c.in_ok-rows.ensures.long, c.len.ensures, c.args.parts.now.variables.ok.0) in
    subst (λ (n : ℕ). AreReaches c.args.parts.now c.args.kept.now n c.loop-n.reaches.items) e c.loop-n.invariant
