use Rattle.std.proofs.Common.{◌≡◌, ◌-◌, suc, subst, arith}
use Rattle.zdd_nodes.specs.Nodes.{family}
use Rattle.diagram_steps.specs.Trees.{edges_of}
use Rattle.diagram_steps.proofs.Growing.{extends_none, extends_then}
use Rattle.coherent_cuts.proofs.Pairs.{AddsTreeFrom, tree_none, tree_more, tree_all}
use Rattle.coherent_cuts.proofs.exclusive.with_pairs.Goals as goal

pub loop-first-init : goal.loop-first-init
loop-first-init c =
    let edges = edges_of c.args.tree.now in record {
      within = omega (arith, c.len-first.ensures);
      grows = extends_none c.args.ops.now;
      in_store = c.requires.in_store;
      adds = tree_none edges c.len-first.result (family c.args.ops.now c.args.pairs.n) (omega (arith, c.len-first.ensures));
    }

pub returns-in_err-pairs-clause-grows : goal.returns-in_err-pairs-clause-grows
returns-in_err-pairs-clause-grows c =
    extends_then c.args.ops.now c.loop-first.ops c.with_pairs_of.new.ops c.loop-first.invariant.grows
    c.in_err-pairs.ensures.grows

pub loop-first-preserved : goal.loop-first-preserved
loop-first-preserved c =
    let edges = edges_of c.args.tree.now in
    let f = family c.args.ops.now c.args.pairs.n in
    let g = family c.loop-first.ops c.loop-first.pairs.n in
    let k = c.loop-first.first - 1 in
    let low = c.loop-first.invariant.within in
    let up : c.loop-first.first ≡ suc k = omega (arith, c.loop-first-test.true) in
    record {
      within = omega (arith, low);
      grows = extends_then c.args.ops.now c.loop-first.ops c.with_pairs_of.new.ops c.loop-first.invariant.grows
          c.in_ok-pairs.ensures.grows;
      in_store = c.in_ok-pairs.ensures.in_store;
      adds = tree_more edges k f g (family c.with_pairs_of.new.ops c.in_ok-pairs.pairs.n)
          (subst (λ z. AddsTreeFrom edges z f g) up c.loop-first.invariant.adds) c.in_ok-pairs.ensures.pairs;
    }

pub returns-clause-pairs : goal.returns-clause-pairs
returns-clause-pairs c =
    tree_all (edges_of c.args.tree.now) c.loop-first.first (family c.args.ops.now c.args.pairs.n)
    (family c.loop-first.ops c.loop-first.pairs.n) (omega (arith, c.loop-first-test.false))
    c.loop-first.invariant.adds
