use Rattle.std.proofs.Common.{◌≡◌, length, get_or, ap, arith}
use Rattle.std.proofs.lemmas.List.{length-map}
use Rattle.std.proofs.lemmas.Bool.Decides.{nat_tests}
use Rattle.mode_trees.specs.Views.{edge_row, tree_of}
use Rattle.zdd_nodes.proofs.Growing.{Grows-none, Grows-then}
use Rattle.gate_diagrams.proofs.Tabling.{no_edge, edge_stands, edgeless_listed, tabled_first, tabled_listed}
use Rattle.gate_diagrams.proofs.paths.tree_paths.Goals as goal

pub returns-then-is_empty-clause-grows : goal.returns-then-is_empty-clause-grows
returns-then-is_empty-clause-grows c = Grows-none (λ h. Unit {0}) c.args.ops.now

pub returns-then-is_empty-clause-listed : goal.returns-then-is_empty-clause-listed
returns-then-is_empty-clause-listed c =
    let tree = tree_of (λ n. n) c.args.tree.now in
    let e = c.if-is_empty.ensures in
    let none : length tree.edges ≡ 0 = grind (
      arith,
      nat_tests,
      e,
      c.if-is_empty.true,
      c.is_empty.ensures,
      c.args.tree.now.edges.ok,
      length-map c.args.tree.now.edges.items (edge_row (λ n. n)),
    ) in
    edgeless_listed tree c.requires.tree c.args.ops.now c.new.result.n c.new.ensures c.requires.sound none

pub returns-in_err-put-clause-grows : goal.returns-in_err-put-clause-grows
returns-in_err-put-clause-grows c = Grows-none (λ h. Unit {0}) c.args.ops.now

pub loop-edge-init : goal.loop-edge-init
loop-edge-init c =
    let tree = tree_of (λ n. n) c.args.tree.now in
    let modes = c.new-modes.result in
    let first =
    tabled_first tree modes c.put.new.modes c.args.ops.now c.new-paths.result c.new-paths.ensures c.in_ok-put.ensures in
    (c.requires.sound, Grows-none (λ h. Unit {0}) c.args.ops.now, first)

pub one_more-requires-clause-known : goal.one_more-requires-clause-known
one_more-requires-clause-known c =
    let k = c.loop-edge.edge-index in
    let items = c.deref-edge-items.result.now in
    let at = edge_stands c.args.tree.now items k c.deref-edge-items.ensures.value c.loop-edge-test.true in
    let edge = get_or items k no_edge in
    (c.loop-edge.invariant.2.known edge.from (c.requires.tree.from k (edge_row (λ n. n) edge) at)).0

pub returns-in_err-paths-clause-grows : goal.returns-in_err-paths-clause-grows
returns-in_err-paths-clause-grows c =
    let more = c.in_err-paths.ensures.grows in
    Grows-then (λ h. Unit {0}) c.args.ops.now c.loop-edge.ops c.one_more.new.ops c.loop-edge.invariant.1 more

pub loop-edge-preserved : goal.loop-edge-preserved
loop-edge-preserved c =
    let k = c.loop-edge.edge-index in
    let items = c.deref-edge-items.result.now in
    let at = edge_stands c.args.tree.now items k c.deref-edge-items.ensures.value c.loop-edge-test.true in
    let e = c.in_ok-paths.ensures in (
      e.sound,
      Grows-then (λ h. Unit {0}) c.args.ops.now c.loop-edge.ops c.one_more.new.ops c.loop-edge.invariant.1 e.grows,
      e.tabled (tree_of (λ n. n) c.args.tree.now) k c.requires.tree at c.loop-edge.invariant.2,
    )

pub returns-clause-listed : goal.returns-clause-listed
returns-clause-listed c =
    let tree = tree_of (λ n. n) c.args.tree.now in
    let l = c.loop-edge in
    let all : l.edge-index ≡ length tree.edges = omega (
      arith,
      c.loop-edge-test.false,
      l.auto.edge-index-end,
      ap length c.deref-edge-items.ensures.value,
      length-map c.args.tree.now.edges.items (edge_row (λ n. n)),
    ) in
    tabled_listed tree c.requires.tree l.edge-index l.modes l.ops l.paths.n l.invariant.0 all l.invariant.2
