use Rattle.std.proofs.Common.{◌≡◌, ◌+◌, ◌<◌, length, get_or, slice_get, Some, refl, sym, ap, subst, arith}
use Rattle.std.proofs.lemmas.Option.{slice_get_read, slice_get-get_or}
use Rattle.ar_base.specs.Lists.{Stands}
use Rattle.diagram_steps.specs.Trees.{edges_of}
use Rattle.mode_diagrams.specs.Costs.{AreModeCosts}
use Rattle.mode_diagrams.proofs.Paying.{costs_more}
use Rattle.mode_diagrams.proofs.costs.tree_costs.Goals as goal

pub loop-place-preserved : goal.loop-place-preserved
loop-place-preserved c =
    let tree = c.args.tree.now in
    let items = edges_of tree in
    let k = c.loop-place.place in
    let costs = c.loop-place.costs.items in
    let found = c.index-edge.result.now in
    let inside : k < length items = omega (arith, c.loop-place-test.true, c.len-place-end.ensures, tree.edges.ok) in
    let at : Stands items k found = slice_get_read items (length items) k found refl inside c.index-edge.ensures in
    let low = c.requires.numbered.each k found at in
    let known : found.from < length costs = omega (arith, low, c.loop-place.invariant.long) in
    let before = c.index-before.result.now in
    let there : slice_get costs found.from ≡ Some before =
    slice_get_read costs (length costs) found.from before refl known c.index-before.ensures in
    let here : slice_get costs found.from ≡ Some (get_or costs found.from 0) =
    slice_get-get_or costs found.from 0 known in
    let same : before ≡ get_or costs found.from 0 = cc in
    subst (AreModeCosts items (k + 1)) (sym c.in_ok-push-2.ensures.items)
    (costs_more tree c.requires.numbered c.requires.different k costs found (before + 1) at c.loop-place.invariant
    (ap (λ n. n + 1) same))
