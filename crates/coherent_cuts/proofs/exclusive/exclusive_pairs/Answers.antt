use Rattle.std.proofs.Common.{◌≡◌, ◌<◌, ◌-◌, suc, length, refl, ap, subst, arith}
use Rattle.std.proofs.lemmas.Option.{slice_get_read}
use Rattle.ar_base.specs.Lists.{Stands}
use Rattle.zdd_nodes.specs.Nodes.{family}
use Rattle.diagram_steps.proofs.Growing.{extends_none, extends_then}
use Rattle.coherent_cuts.proofs.Pairs.{AddsAllFrom, all_none, all_more, all_pairs}
use Rattle.coherent_cuts.proofs.exclusive.exclusive_pairs.Goals as goal

pub loop-left-init : goal.loop-left-init
loop-left-init c =
    let zero_is = c.new-pairs.ensures in record {
      within = omega arith;
      grows = extends_none c.args.ops.now;
      in_store = omega (arith, zero_is);
      adds = all_none c.args.trees.now (length c.args.trees.now) (family c.args.ops.now c.new-pairs.result.n)
          (omega arith) (ap (family c.args.ops.now) zero_is);
    }

pub with_pairs-requires-clause-numbered : goal.with_pairs-requires-clause-numbered
with_pairs-requires-clause-numbered c =
    let trees = c.args.trees.now in
    let k = c.loop-left.left - 1 in
    let low = c.loop-left.invariant.within in
    let inside : k < length trees = omega (arith, low, c.loop-left-test.true) in
    let st : Stands trees k c.index-trees-left.result =
    slice_get_read trees (length trees) k c.index-trees-left.result refl inside c.index-trees-left.is in
    c.requires.numbered.each k c.index-trees-left.result st

pub returns-in_err-pairs-clause-grows : goal.returns-in_err-pairs-clause-grows
returns-in_err-pairs-clause-grows c =
    extends_then c.args.ops.now c.loop-left.ops c.with_pairs.new.ops c.loop-left.invariant.grows
    c.in_err-pairs.ensures.grows

pub loop-left-preserved : goal.loop-left-preserved
loop-left-preserved c =
    let trees = c.args.trees.now in
    let k = c.loop-left.left - 1 in
    let low = c.loop-left.invariant.within in
    let inside : k < length trees = omega (arith, low, c.loop-left-test.true) in
    let st : Stands trees k c.index-trees-left.result =
    slice_get_read trees (length trees) k c.index-trees-left.result refl inside c.index-trees-left.is in
    let up : c.loop-left.left ≡ suc k = omega (arith, c.loop-left-test.true) in
    let g = family c.loop-left.ops c.loop-left.pairs.n in
    record {
      within = omega (arith, low);
      grows = extends_then c.args.ops.now c.loop-left.ops c.with_pairs.new.ops c.loop-left.invariant.grows
          c.in_ok-pairs.ensures.grows;
      in_store = c.in_ok-pairs.ensures.in_store;
      adds = all_more trees k c.index-trees-left.result g (family c.with_pairs.new.ops c.in_ok-pairs.pairs.n) st
          (subst (λ z. AddsAllFrom trees z g) up c.loop-left.invariant.adds) c.in_ok-pairs.ensures.pairs;
    }

pub returns-clause-pairs : goal.returns-clause-pairs
returns-clause-pairs c =
    all_pairs c.args.trees.now c.loop-left.left (family c.loop-left.ops c.loop-left.pairs.n)
    (omega (arith, c.loop-left-test.false)) c.loop-left.invariant.adds
