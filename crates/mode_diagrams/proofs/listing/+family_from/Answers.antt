use Rattle.std.proofs.Common.{◌≡◌, ◌≤◌, ◌<◌, ◌+◌, ◌-◌, length, refl, sym, ap, ◌∙◌, subst, arith}
use Rattle.std.proofs.lemmas.Option.{slice_get_read}
use Rattle.ar_base.specs.Lists.{Stands}
use Rattle.zdd_nodes.specs.Nodes.{family}
use Rattle.diagram_steps.specs.Trees.{edges_of}
use Rattle.diagram_steps.proofs.Growing.{extends_none, extends_then, extends_by, kept}
use Rattle.mode_nodes.specs.Bounds.{cost}
use Rattle.mode_diagrams.specs.Kept.{IsTrueIn}
use Rattle.mode_diagrams.specs.Sets.{HasSets, with_most, IsTrueFrom, IsTrueBelow}
use Rattle.mode_diagrams.proofs.Holding.{held_grow, held_more, handed_sets}
use Rattle.mode_diagrams.proofs.Stepping.{step, below_none, below_dear, below_more, below_all, no_tree, never, unit_family, from_truth}
use Rattle.mode_diagrams.proofs.listing.+family_from.Goals as goal

pub returns-then-state-trees-clause-grows : goal.returns-then-state-trees-clause-grows
returns-then-state-trees-clause-grows t c = extends_none c.args.ops.now

pub returns-then-state-trees-clause-sets : goal.returns-then-state-trees-clause-sets
returns-then-state-trees-clause-sets t c =
    no_tree c.args.trees.now c.args.state.place (with_most c.args.diagrams.now c.args.state.most)
    c.holds_at_first.ensures.sound c.args.state.diagram.n
    (family c.args.ops.now c.new.result.n) c.if-state-trees.true c.requires.paid c.requires.number c.requires.from
    c.holds_at_first.result c.holds_at_first.ensures.value
    (unit_family c.args.ops.now c.holds_at_first.result c.new.result.n (from_truth _ _ (c.new.ensures ∙ c.from.ensures)))

pub returns-then-state-eq0-clause-grows : goal.returns-then-state-eq0-clause-grows
returns-then-state-eq0-clause-grows t c = extends_none c.args.ops.now

pub returns-then-state-eq0-clause-sets : goal.returns-then-state-eq0-clause-sets
returns-then-state-eq0-clause-sets t c =
    never c.args.trees.now c.args.state.place (with_most c.args.diagrams.now c.args.state.most) c.args.state.diagram.n (family c.args.ops.now c.new-then-state-eq0.result.n)
    c.if-state-eq0.true (ap (family c.args.ops.now) c.new-then-state-eq0.ensures)

pub returns-in-Some-clause-grows : goal.returns-in-Some-clause-grows
returns-in-Some-clause-grows t c = extends_none c.args.ops.now

pub returns-in-Some-clause-in_store : goal.returns-in-Some-clause-in_store
returns-in-Some-clause-in_store t c =
    (c.requires.held.each c.args.state c.in-Some.number (sym c.recall.ensures ∙ c.in-Some.is)).in_store

pub returns-in-Some-clause-sets : goal.returns-in-Some-clause-sets
returns-in-Some-clause-sets t c =
    (c.requires.held.each c.args.state c.in-Some.number (sym c.recall.ensures ∙ c.in-Some.is)).sets

pub loop-mode-init : goal.loop-mode-init
loop-mode-init t c = (
  extends_none c.args.ops.now,
  c.requires.held,
  omega (arith, c.new-sets.ensures),
  below_none c.args.trees.now c.args.state.place (with_most c.args.diagrams.now c.args.state.most) c.args.state.diagram.n (family c.args.ops.now c.new-sets.result.n)
      (ap (family c.args.ops.now) c.new-sets.ensures),
)

pub overflow_cast-mode : goal.overflow_cast-mode
overflow_cast-mode t c =
    let trees = c.args.trees.now in
    let tree = c.index-trees-state.result in
    let inside : c.args.state.place < length trees = grind (arith, c.if-state-trees.false, c.requires.place_in) in
    let stands : Stands trees c.args.state.place tree =
    slice_get_read trees (length trees) c.args.state.place tree refl inside c.index-trees-state.is in
    let small = c.requires.small.each c.args.state.place tree stands in
    omega (arith, small, c.loop-mode-test.true, c.len-mode-end.ensures, tree.edges.ok)

pub overflow_cast-mode-in-loop-mode : goal.overflow_cast-mode-in-loop-mode
overflow_cast-mode-in-loop-mode t c =
    let trees = c.args.trees.now in
    let tree = c.index-trees-state.result in
    let inside : c.args.state.place < length trees = grind (arith, c.if-state-trees.false, c.requires.place_in) in
    let stands : Stands trees c.args.state.place tree =
    slice_get_read trees (length trees) c.args.state.place tree refl inside c.index-trees-state.is in
    let small = c.requires.small.each c.args.state.place tree stands in
    omega (arith, small, c.loop-mode-test.true, c.len-mode-end.ensures, tree.edges.ok)

pub overflow_cast-mode-in-loop-mode-2 : goal.overflow_cast-mode-in-loop-mode-2
overflow_cast-mode-in-loop-mode-2 t c =
    let trees = c.args.trees.now in
    let tree = c.index-trees-state.result in
    let inside : c.args.state.place < length trees = grind (arith, c.if-state-trees.false, c.requires.place_in) in
    let stands : Stands trees c.args.state.place tree =
    slice_get_read trees (length trees) c.args.state.place tree refl inside c.index-trees-state.is in
    let small = c.requires.small.each c.args.state.place tree stands in
    omega (arith, small, c.loop-mode-test.true, c.len-mode-end.ensures, tree.edges.ok)

pub returns-in_err-later-clause-grows : goal.returns-in_err-later-clause-grows
returns-in_err-later-clause-grows t c =
    extends_then c.args.ops.now c.loop-mode.ops c.family_from.new.ops c.loop-mode.invariant.0
    c.in_err-later.ensures.grows

pub with_path-requires-clause-numbered : goal.with_path-requires-clause-numbered
with_path-requires-clause-numbered t c =
    let trees = c.args.trees.now in
    let tree = c.index-trees-state.result in
    let inside : c.args.state.place < length trees = grind (arith, c.if-state-trees.false, c.requires.place_in) in
    let stands : Stands trees c.args.state.place tree =
    slice_get_read trees (length trees) c.args.state.place tree refl inside c.index-trees-state.is in
    c.requires.numbered.each c.args.state.place tree stands

pub returns-in_err-here-clause-grows : goal.returns-in_err-here-clause-grows
returns-in_err-here-clause-grows t c =
    extends_then c.args.ops.now c.family_from.new.ops c.with_path.new.ops
    (extends_then c.args.ops.now c.loop-mode.ops c.family_from.new.ops c.loop-mode.invariant.0
    c.in_ok-later.ensures.grows) c.in_err-here.ensures.grows

pub returns-in_err-here-clause-held : goal.returns-in_err-here-clause-held
returns-in_err-here-clause-held t c =
    held_grow (λ h. Unit {0}) c.args.trees.now c.args.diagrams.now c.family_from.new.ops c.with_path.new.ops
    c.family_from.new.held c.in_err-here.ensures.grows c.in_ok-later.ensures.held

pub returns-in_err-sets-clause-grows : goal.returns-in_err-sets-clause-grows
returns-in_err-sets-clause-grows t c =
    extends_then c.args.ops.now c.with_path.new.ops c.union.new.self
    (extends_then c.args.ops.now c.family_from.new.ops c.with_path.new.ops
    (extends_then c.args.ops.now c.loop-mode.ops c.family_from.new.ops c.loop-mode.invariant.0
    c.in_ok-later.ensures.grows) c.in_ok-here.ensures.grows)
    (extends_by _ c.with_path.new.ops c.union.new.self c.in_err-sets.ensures.drawn.grows)

pub returns-in_err-sets-clause-held : goal.returns-in_err-sets-clause-held
returns-in_err-sets-clause-held t c =
    held_grow _ c.args.trees.now c.args.diagrams.now c.with_path.new.ops c.union.new.self c.family_from.new.held
    c.in_err-sets.ensures.drawn.grows
    (held_grow (λ h. Unit {0}) c.args.trees.now c.args.diagrams.now c.family_from.new.ops c.with_path.new.ops
    c.family_from.new.held c.in_ok-here.ensures.grows c.in_ok-later.ensures.held)

pub loop-mode-preserved-then-cost-state : goal.loop-mode-preserved-then-cost-state
loop-mode-preserved-then-cost-state t c =
    let s = with_most c.args.diagrams.now c.args.state.most in
    let dear = subst (λ k. c.args.state.most < k) c.cost-cost.ensures c.if-cost-state.true in (
      c.loop-mode.invariant.0,
      c.loop-mode.invariant.1,
      c.loop-mode.invariant.2,
      below_dear c.args.trees.now c.args.state.place s c.args.state.diagram.n c.loop-mode.mode
          (family c.loop-mode.ops c.loop-mode.sets.n) dear c.loop-mode.invariant.3,
    )

pub loop-mode-preserved : goal.loop-mode-preserved
loop-mode-preserved t c =
    let trees = c.args.trees.now in
    let place = c.args.state.place in
    let tree = c.index-trees-state.result in
    let inside : place < length trees = grind (arith, c.if-state-trees.false, c.requires.place_in) in
    let stands : Stands trees place tree =
    slice_get_read trees (length trees) place tree refl inside c.index-trees-state.is in
    let s = with_most c.args.diagrams.now c.args.state.most in
    let n = c.args.state.diagram.n in
    let mode = c.loop-mode.mode in
    let w = c.with_path.new.ops in
    let u = c.union.new.self in
    let low : mode ≤ length (edges_of tree) = omega (arith, c.loop-mode-test.true, c.len-mode-end.ensures, tree.edges.ok) in
    let paid : cost s.costs place mode ≤ s.most =
    subst (λ k. k ≤ c.args.state.most) c.cost-cost.ensures (omega (arith, c.if-cost-state.false)) in
    let here_grows = extends_then c.loop-mode.ops c.family_from.new.ops w c.in_ok-later.ensures.grows
    c.in_ok-here.ensures.grows in
    let grows = extends_then c.args.ops.now c.loop-mode.ops w c.loop-mode.invariant.0 here_grows in
    let before = subst (HasSets (IsTrueBelow trees place s n mode))
    (sym (kept c.loop-mode.ops w c.loop-mode.sets.n here_grows c.loop-mode.invariant.2)) c.loop-mode.invariant.3 in
    let later = subst (λ k. HasSets (IsTrueFrom trees (place + 1) (with_most c.args.diagrams.now (c.args.state.most - k))
    c.branch-diagrams.result.n) (family c.family_from.new.ops c.in_ok-later.later.n)) c.cost-cost.ensures
    c.in_ok-later.ensures.sets in
    let at_mode = step trees c.requires.numbered place tree stands s c.branch-diagrams.ensures.sound n mode
    c.branch-diagrams.result.n c.branch-diagrams.ensures.taken (c.branch-diagrams.ensures.from c.requires.from) low paid
    (family c.family_from.new.ops c.in_ok-later.later.n) (family w c.in_ok-here.here.n) later
    c.in_ok-here.ensures.sets in (
      extends_then c.args.ops.now w u grows (extends_by _ w u c.in_ok-sets.ensures.drawn.grows),
      held_grow _ trees c.args.diagrams.now w u c.family_from.new.held c.in_ok-sets.ensures.drawn.grows
          (held_grow (λ h. Unit {0}) trees c.args.diagrams.now c.family_from.new.ops w c.family_from.new.held
          c.in_ok-here.ensures.grows c.in_ok-later.ensures.held),
      c.in_ok-sets.ensures.drawn.ok.0,
      below_more trees place s n mode (family w c.loop-mode.sets.n) (family w c.in_ok-here.here.n)
          (family u c.in_ok-sets.sets.n) before at_mode c.in_ok-sets.ensures.drawn.ok.1,
    )

pub returns-clause-held : goal.returns-clause-held
returns-clause-held t c =
    let trees = c.args.trees.now in
    let tree = c.index-trees-state.result in
    let inside : c.args.state.place < length trees = grind (arith, c.if-state-trees.false, c.requires.place_in) in
    let stands : Stands trees c.args.state.place tree =
    slice_get_read trees (length trees) c.args.state.place tree refl inside c.index-trees-state.is in
    let all : c.loop-mode.mode ≡ length (edges_of tree) + 1 =
    omega (arith, c.loop-mode-test.false, c.loop-mode.auto.mode-end, c.len-mode-end.ensures, tree.edges.ok) in
    held_more trees c.args.diagrams.now c.loop-mode.ops c.args.state c.loop-mode.sets c.loop-mode.held c.remember.new.self
    c.loop-mode.invariant.1
    (record {
      in_store = c.loop-mode.invariant.2;
      sets = below_all trees c.args.state.place tree (with_most c.args.diagrams.now c.args.state.most)
          c.args.state.diagram.n c.loop-mode.mode
          (family c.loop-mode.ops c.loop-mode.sets.n) stands all c.loop-mode.invariant.3;
    }) c.remember.ensures.entry

pub returns-clause-sets : goal.returns-clause-sets
returns-clause-sets t c =
    let trees = c.args.trees.now in
    let tree = c.index-trees-state.result in
    let inside : c.args.state.place < length trees = grind (arith, c.if-state-trees.false, c.requires.place_in) in
    let stands : Stands trees c.args.state.place tree =
    slice_get_read trees (length trees) c.args.state.place tree refl inside c.index-trees-state.is in
    let all : c.loop-mode.mode ≡ length (edges_of tree) + 1 =
    omega (arith, c.loop-mode-test.false, c.loop-mode.auto.mode-end, c.len-mode-end.ensures, tree.edges.ok) in
    let is = below_all trees c.args.state.place tree (with_most c.args.diagrams.now c.args.state.most)
    c.args.state.diagram.n c.loop-mode.mode
    (family c.loop-mode.ops c.loop-mode.sets.n) stands all c.loop-mode.invariant.3 in
    handed_sets (IsTrueIn trees c.args.diagrams.now c.args.state) c.loop-mode.ops c.loop-mode.sets c.remember.result is
    c.remember.ensures.number
