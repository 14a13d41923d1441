use Rattle.std.proofs.Common.{◌≡◌, ◌<◌, ◌-◌, ◌+◌, suc, length, refl, sym, subst, arith, true≢false}
use Rattle.std.proofs.lemmas.Option.{slice_get_read}
use Rattle.ar_base.specs.Lists.{Stands}
use Rattle.zdd_nodes.specs.Nodes.{family}
use Rattle.diagram_steps.specs.Trees.{edges_of}
use Rattle.diagram_steps.proofs.Growing.{extends_none, extends_then}
use Rattle.mode_diagrams.specs.Trees.{IsOnPath}
use Rattle.coherent_cuts.proofs.Pairs.{AddsFrom, adds_none, adds_pair, adds_not, adds_all}
use Rattle.coherent_cuts.proofs.exclusive.with_pairs_of.Goals as goal

pub loop-second-init : goal.loop-second-init
loop-second-init c =
    let edges = edges_of c.args.tree.now in record {
      within = omega (arith, c.len-second.ensures);
      grows = extends_none c.args.ops.now;
      in_store = c.requires.in_store;
      adds = adds_none edges c.args.first c.len-second.result (family c.args.ops.now c.args.pairs.n)
          (omega (arith, c.len-second.ensures));
    }

pub returns-in_err-pairs-clause-grows : goal.returns-in_err-pairs-clause-grows
returns-in_err-pairs-clause-grows c =
    extends_then c.args.ops.now c.loop-second.ops c.with_pair.new.ops c.loop-second.invariant.grows
    c.in_err-pairs.ensures.grows

pub loop-second-preserved-then-not-is_on_path : goal.loop-second-preserved-then-not-is_on_path
loop-second-preserved-then-not-is_on_path c =
    let edges = edges_of c.args.tree.now in
    let s = c.args.ops.now in
    let t = c.loop-second.ops in
    let f = family s c.args.pairs.n in
    let g = family t c.loop-second.pairs.n in
    let k = c.loop-second.second - 1 in
    let low = c.loop-second.invariant.within in
    let inside : k < length edges = omega (arith, low, c.loop-second-test.true) in
    let before : c.args.first < k = omega (arith, c.loop-second-test.true) in
    let up : c.loop-second.second ≡ suc k = omega (arith, c.loop-second-test.true) in
    let a = c.index.result.now in
    let b = c.index-then-not-is_on_path.result.now in
    let sa : Stands edges c.args.first a =
    slice_get_read edges (length edges) c.args.first a refl c.requires.first c.index.ensures in
    let sb : Stands edges k b = slice_get_read edges (length edges) k b refl inside c.index-then-not-is_on_path.ensures in
    let end : suc k ≡ k + 1 = omega arith in
    record {
      within = omega (arith, low);
      grows = extends_then s t c.with_pair.new.ops c.loop-second.invariant.grows c.in_ok-pairs.ensures.grows;
      in_store = c.in_ok-pairs.ensures.in_store;
      adds = adds_pair edges c.args.first k f g (family c.with_pair.new.ops c.in_ok-pairs.pairs.n) a b before sa sb
          (λ p. true≢false (sym (c.if-not-is_on_path.ensures.1 (subst (IsOnPath edges a.event.n) end p))))
          (subst (λ z. AddsFrom edges c.args.first z f g) up c.loop-second.invariant.adds) c.in_ok-pairs.ensures.pair;
    }

pub loop-second-preserved : goal.loop-second-preserved
loop-second-preserved c =
    let edges = edges_of c.args.tree.now in
    let f = family c.args.ops.now c.args.pairs.n in
    let g = family c.loop-second.ops c.loop-second.pairs.n in
    let k = c.loop-second.second - 1 in
    let low = c.loop-second.invariant.within in
    let up : c.loop-second.second ≡ suc k = omega (arith, c.loop-second-test.true) in
    let a = c.index.result.now in
    let sa : Stands edges c.args.first a =
    slice_get_read edges (length edges) c.args.first a refl c.requires.first c.index.ensures in
    let end : k + 1 ≡ suc k = omega arith in
    record {
      within = omega (arith, low);
      grows = c.loop-second.invariant.grows;
      in_store = c.loop-second.invariant.in_store;
      adds = adds_not edges c.args.first k f g a sa
          (subst (IsOnPath edges a.event.n) end (c.if-not-is_on_path.ensures.0 refl))
          (subst (λ z. AddsFrom edges c.args.first z f g) up c.loop-second.invariant.adds);
    }

pub returns-clause-pairs : goal.returns-clause-pairs
returns-clause-pairs c =
    adds_all (edges_of c.args.tree.now) c.args.first c.loop-second.second (family c.args.ops.now c.args.pairs.n)
    (family c.loop-second.ops c.loop-second.pairs.n) (omega (arith, c.loop-second-test.false))
    c.loop-second.invariant.adds
