use Rattle.std.proofs.Common.{◌+◌, ◌<◌, length, refl, sym, subst, arith}
use Rattle.std.proofs.lemmas.Option.{slice_get_read}
use Rattle.ar_base.specs.Lists.{Stands}
use Rattle.ar_base.proofs.Standing.{stands_map}
use Rattle.mode_trees.specs.Views.{edge_row, tree_of}
use Rattle.mode_diagrams.proofs.Making.{IsSoFar, so_far_none, so_far_more}
use Rattle.mode_diagrams.proofs.numbering.numbered_tree.Goals as goal

pub loop-place-init : goal.loop-place-init
loop-place-init c =
    subst (IsSoFar (tree_of (λ n. n) c.args.tree.now) 0) (sym c.new-edges.ensures.items)
    (so_far_none (tree_of (λ n. n) c.args.tree.now))

pub loop-place-preserved : goal.loop-place-preserved
loop-place-preserved c =
    let tree = tree_of (λ n. n) c.args.tree.now in
    let items = c.args.tree.now.edges.items in
    let k = c.loop-place.place in
    let found = c.index-edge.result.now in
    let inside : k < length items = omega (arith, c.loop-place-test.true, c.len-place-end.ensures, c.args.tree.now.edges.ok) in
    let at : Stands items k found = slice_get_read items (length items) k found refl inside c.index-edge.ensures in
    subst (IsSoFar tree (k + 1)) (sym c.in_ok-push.ensures.items)
    (so_far_more tree k c.loop-place.edges.items (edge_row (λ n. n) found)
    (record { event = found.event; from = c.mode_number-from.result })
    (stands_map (edge_row (λ n. n)) items k found at) c.loop-place.invariant refl c.mode_number-from.ensures)

pub mode_number-from-requires-clause-known : goal.mode_number-from-requires-clause-known
mode_number-from-requires-clause-known c =
    let tree = tree_of (λ n. n) c.args.tree.now in
    let items = c.args.tree.now.edges.items in
    let k = c.loop-place.place in
    let found = c.index-edge.result.now in
    let inside : k < length items = omega (arith, c.loop-place-test.true, c.len-place-end.ensures, c.args.tree.now.edges.ok) in
    let at : Stands items k found = slice_get_read items (length items) k found refl inside c.index-edge.ensures in
    c.requires.tree.from k (edge_row (λ n. n) found) (stands_map (edge_row (λ n. n)) items k found at)
