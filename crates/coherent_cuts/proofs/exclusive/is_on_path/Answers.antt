use Rattle.std.proofs.Common.{◌≡◌, ◌<◌, ◌-◌, suc, length, refl, arith}
use Rattle.std.proofs.lemmas.Option.{slice_get_read}
use Rattle.ar_base.specs.Lists.{Stands}
use Rattle.diagram_steps.specs.Trees.{edges_of}
use Rattle.mode_diagrams.specs.Trees.{last, earlier}
use Rattle.coherent_cuts.proofs.Pairs.{path_up}
use Rattle.coherent_cuts.proofs.exclusive.is_on_path.Goals as goal

pub loop-at-init : goal.loop-at-init
loop-at-init c = record { within = c.requires.mode; same = (λ p. p, λ p. p) }

pub returns-then-edge-event : goal.returns-then-edge-event
returns-then-edge-event c =
    let edges = edges_of c.args.tree.now in
    let k = c.loop-at.at - 1 in
    let low = c.loop-at.invariant.within in
    let inside : k < length edges = omega (arith, low, c.loop-at-test.true) in
    let st : Stands edges k c.index-edge.result.now =
    slice_get_read edges (length edges) k c.index-edge.result.now refl inside c.index-edge.ensures in
    let q : c.loop-at.at ≡ suc k = omega (arith, c.loop-at-test.true) in
    (λ t. c.loop-at.invariant.same.1 (last q st c.if-edge-event.true), λ p. refl)

pub loop-at-smaller : goal.loop-at-smaller
loop-at-smaller c =
    let edges = edges_of c.args.tree.now in
    let k = c.loop-at.at - 1 in
    let low = c.loop-at.invariant.within in
    let inside : k < length edges = omega (arith, low, c.loop-at-test.true) in
    let st : Stands edges k c.index-edge.result.now =
    slice_get_read edges (length edges) k c.index-edge.result.now refl inside c.index-edge.ensures in
    let from = c.requires.numbered.each k c.index-edge.result.now st in
    omega (arith, from, c.loop-at-test.true)

pub loop-at-preserved : goal.loop-at-preserved
loop-at-preserved c =
    let edges = edges_of c.args.tree.now in
    let k = c.loop-at.at - 1 in
    let low = c.loop-at.invariant.within in
    let inside : k < length edges = omega (arith, low, c.loop-at-test.true) in
    let st : Stands edges k c.index-edge.result.now =
    slice_get_read edges (length edges) k c.index-edge.result.now refl inside c.index-edge.ensures in
    let from = c.requires.numbered.each k c.index-edge.result.now st in
    let q : c.loop-at.at ≡ suc k = omega (arith, c.loop-at-test.true) in
    record {
      within = omega (arith, from, inside);
      same = (
        λ p. path_up edges c.args.event.n c.loop-at.at k c.index-edge.result.now q st c.if-edge-event.false
            (c.loop-at.invariant.same.0 p),
        λ p. c.loop-at.invariant.same.1 (earlier q st p),
      );
    }
