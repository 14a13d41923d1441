use Rattle.std.proofs.Common.{◌≡◌, ◌∙◌, ◌+◌, ℕ, List, length, drop, sym, ap, subst, arith}
use Rattle.std.proofs.lemmas.List.{take_at}
use Rattle.ar_base.specs.Lists.{IsOneOf}
use Rattle.ar_base.specs.Numbers.{WayId}
use Rattle.gts_core.specs.declared.system.GtsParts.{GtsParts}
use Rattle.mode_trees.specs.declared.forests.Edge.{Edge}
use Rattle.mode_trees.specs.declared.forests.ModeTree.{ModeTree}
use Rattle.cut_text.specs.Printed.{forest_edges}
use Rattle.cut_text.specs.Tables.{HasEdgeWays, with_ways}
use Rattle.cut_text.proofs.TableLemmas.{AreWithin, are_ways, edge_in, events_within, one_more, kept_as, tree_here, next_edges, no_edges}
use Rattle.cut_text.proofs.tables.event_ways.Goals as goal

pub set_ways-requires : goal.set_ways-requires
set_ways-requires c =
    let ts : List ModeTree = c.args.forest.now.trees.items in
    let here = tree_here ts c.deref-tree-items.result.now c.loop-tree.tree-index c.tree-item.result
    c.deref-tree-items.ensures.value c.loop-tree-test.true c.tree-item.is in
    λ x o.
    let q : IsOneOf c.tree-item.result.edges.items x = subst (λ (z : List Edge). IsOneOf z x) c.deref.ensures.value o in
    let l = (events_within c.args.gts.now c.parts.ensures.sound ts c.requires.own).each x
    (edge_in ts c.tree-item.result x here q) in
    let all : length c.parts.result.now.events.items ≡ length c.args.gts.now.events.items = ap
    (λ (p : GtsParts). length p.events.items) c.parts.ensures.parts in
    omega (
      arith,
      l,
      all,
      ap length c.deref_mut.ensures.value,
      c.loop-tree.invariant.1,
      c.in_ok-ways.ways.ok,
      c.in_ok-ways.ensures.len,
      c.len.ensures,
      c.parts.result.now.events.ok,
    )

pub loop-tree-preserved : goal.loop-tree-preserved
loop-tree-preserved c =
    let old : List WayId = c.loop-tree.ways.items in
    let new : List WayId = c.set_ways.new.ways in
    let t : ModeTree = c.tree-item.result in
    let ts : List ModeTree = c.args.forest.now.trees.items in
    let i : ℕ = c.loop-tree.tree-index in
    kept_as ts (i + 1) c.in_ok-ways.ways.items new _
    (take_at new (drop (length new) old) c.loop-tree.ways.len (c.set_ways.auto.ways ∙ c.deref_mut.ensures.len))
    (one_more ts i t c.in_ok-ways.ways.items old new
    (next_edges ts c.deref-tree-items.result.now i t c.deref-tree-items.ensures.value c.loop-tree-test.true
    c.tree-item.is)
    (c.set_ways.ensures ∙ ap (λ (z : List Edge). with_ways z c.deref_mut.result.now) c.deref.ensures.value
    ∙ ap (λ (z : List WayId). with_ways t.edges.items z) c.deref_mut.ensures.value)
    c.loop-tree.invariant)

pub returns : goal.returns
returns c =
    let ts : List ModeTree = c.args.forest.now.trees.items in
    let i : ℕ = c.loop-tree.tree-index in
    let start : List WayId = c.in_ok-ways.ways.items in
    let none = no_edges ts c.deref-tree-items.result.now i c.deref-tree-items.ensures.value c.loop-tree-test.false in
    let all : length c.parts.result.now.events.items ≡ length c.args.gts.now.events.items = ap
    (λ (p : GtsParts). length p.events.items) c.parts.ensures.parts in
    let same : length start ≡ length c.args.gts.now.events.items =
    omega (arith, all, c.in_ok-ways.ways.ok, c.in_ok-ways.ensures.len, c.len.ensures, c.parts.result.now.events.ok) in
    subst (λ (z : List WayId). HasEdgeWays (forest_edges ts) z)
    (sym c.loop-tree.invariant.0 ∙ ap (λ (z : List Edge). with_ways z c.loop-tree.ways.items) none)
    (are_ways (forest_edges ts) start
    (subst (λ (n : ℕ). AreWithin n (forest_edges ts)) (sym same)
    (events_within c.args.gts.now c.parts.ensures.sound ts c.requires.own))
    c.requires.one_way)
