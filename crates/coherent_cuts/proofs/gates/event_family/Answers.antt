use Rattle.std.proofs.Common.{◌≡◌, Some, None, length, rules, refl, sym, ap, ◌∙◌, subst, arith}
use Rattle.std.proofs.lemmas.Option.{slice_get_read}
use Rattle.ar_base.specs.Lists.{Stands}
use Rattle.ar_base.proofs.Results.{ok_map}
use Rattle.ar_base.proofs.Standing.{stands_one, stands_within}
use Rattle.zdd_nodes.specs.Nodes.{family}
use Rattle.diagram_steps.specs.declared.trees.NumberedTree.{NumberedTree}
use Rattle.diagram_steps.specs.Trees.{edges_of}
use Rattle.coherent_cuts.specs.Places.{place_of, Enters}
use Rattle.least_families.proofs.Held.{keeps_none, keeps_then, keeps_by}
use Rattle.coherent_cuts.proofs.Families.{path_family, path_apart, event_least, event_nowhere}
use Rattle.coherent_cuts.proofs.gates.event_family.Goals as goal

pub returns-in_default-clause-kept : goal.returns-in_default-clause-kept
returns-in_default-clause-kept c = keeps_none c.args.ops.now c.args.memo.now c.requires.held

pub returns-in_default-clause-operand : goal.returns-in_default-clause-operand
returns-in_default-clause-operand c =
    let zero_is = c.new.ensures in
    let none : place_of c.args.places.now c.args.event ≡ None = search rules in record {
      in_store = omega (arith, zero_is);
      apart = (event_nowhere c.args.order c.args.trees.now c.requires.numbered c.requires.apart c.requires.different
          c.args.event.n
          (λ k tree st he. let p = c.requires.placed.whole k tree c.args.event
          (stands_within c.args.trees.now k tree st) st he in
          let q : None ≡ Some p.0 = sym none ∙ p.1 in cc)
          (family c.args.ops.now c.new.result.n) (ap (family c.args.ops.now) zero_is)).apart;
    }

pub returns-in_default-clause-family : goal.returns-in_default-clause-family
returns-in_default-clause-family c = λ gates.
    let zero_is = c.new.ensures in
    let none : place_of c.args.places.now c.args.event ≡ None = search rules in record {
      in_store = omega (arith, zero_is);
      least = event_nowhere c.args.order c.args.trees.now c.requires.numbered c.requires.apart c.requires.different
          c.args.event.n
          (λ k tree st he. let p = c.requires.placed.whole k tree c.args.event
          (stands_within c.args.trees.now k tree st) st he in
          let q : None ≡ Some p.0 = sym none ∙ p.1 in cc)
          (family c.args.ops.now c.new.result.n) (ap (family c.args.ops.now) zero_is);
    }

pub bounds-trees-place : goal.bounds-trees-place
bounds-trees-place c =
    let found : place_of c.args.places.now c.args.event ≡ Some c.in-Some.place = search rules in
    let at = c.requires.placed.sound c.args.event c.in-Some.place found in
    stands_within c.args.trees.now c.in-Some.place.tree at.0 at.1

pub path_to-requires-clause-numbered : goal.path_to-requires-clause-numbered
path_to-requires-clause-numbered c =
    let trees = c.args.trees.now in
    let k = c.in-Some.place.tree in
    let tree = c.index-trees-place.result in
    let found : place_of c.args.places.now c.args.event ≡ Some c.in-Some.place = search rules in
    let at = c.requires.placed.sound c.args.event c.in-Some.place found in
    let inside = stands_within trees k at.0 at.1 in
    let stands : Stands trees k tree = slice_get_read trees (length trees) k tree refl inside c.index-trees-place.is in
    c.requires.numbered.each k tree stands

pub path_to-requires-clause-mode : goal.path_to-requires-clause-mode
path_to-requires-clause-mode c =
    let trees = c.args.trees.now in
    let k = c.in-Some.place.tree in
    let tree = c.index-trees-place.result in
    let found : place_of c.args.places.now c.args.event ≡ Some c.in-Some.place = search rules in
    let at = c.requires.placed.sound c.args.event c.in-Some.place found in
    let inside = stands_within trees k at.0 at.1 in
    let stands : Stands trees k tree = slice_get_read trees (length trees) k tree refl inside c.index-trees-place.is in
    let same = stands_one trees k at.0 tree at.1 stands in
    let enters = subst (λ (t : NumberedTree). Enters (edges_of t) c.args.event.n c.in-Some.place.mode) same at.2 in
    let mode = enters.mode in
    let low = stands_within (edges_of tree) enters.place enters.edge enters.stands in
    omega (arith, mode, low)

pub returns-in_err-path-clause-kept : goal.returns-in_err-path-clause-kept
returns-in_err-path-clause-kept c =
    keeps_by (λ h. Unit {0}) c.args.ops.now c.args.ops.now c.path_to.new.ops c.args.memo.now
    (keeps_none c.args.ops.now c.args.memo.now c.requires.held) c.in_err-path.ensures.grows

pub least_up_to-requires-clause-operand : goal.least_up_to-requires-clause-operand
least_up_to-requires-clause-operand c =
    let tree = c.index-trees-place.result in record {
      in_store = c.in_ok-path.ensures.in_store;
      apart = path_apart (edges_of tree) c.in-Some.place.mode (family c.path_to.new.ops c.in_ok-path.path.n)
          (path_family (edges_of tree) c.in-Some.place.mode (family c.path_to.new.ops c.in_ok-path.path.n)
          c.in_ok-path.ensures.path);
    }

pub least_up_to-requires-clause-held : goal.least_up_to-requires-clause-held
least_up_to-requires-clause-held c =
    (keeps_by (λ h. Unit {0}) c.args.ops.now c.args.ops.now c.path_to.new.ops c.args.memo.now
    (keeps_none c.args.ops.now c.args.memo.now c.requires.held) c.in_ok-path.ensures.grows).held

pub returns-clause-kept : goal.returns-clause-kept
returns-clause-kept c =
    keeps_then c.args.ops.now c.path_to.new.ops c.least_up_to.new.ops c.args.memo.now c.least_up_to.new.memo
    (keeps_by (λ h. Unit {0}) c.args.ops.now c.args.ops.now c.path_to.new.ops c.args.memo.now
    (keeps_none c.args.ops.now c.args.memo.now c.requires.held) c.in_ok-path.ensures.grows) c.least_up_to.ensures.kept

pub returns-clause-operand : goal.returns-clause-operand
returns-clause-operand c =
    ok_map c.least_up_to.result (λ n l. record { in_store = l.in_store; apart = l.least.apart })
    c.least_up_to.ensures.least

pub returns-clause-family : goal.returns-clause-family
returns-clause-family c =
    let trees = c.args.trees.now in
    let k = c.in-Some.place.tree in
    let tree = c.index-trees-place.result in
    let found : place_of c.args.places.now c.args.event ≡ Some c.in-Some.place = search rules in
    let at = c.requires.placed.sound c.args.event c.in-Some.place found in
    let inside = stands_within trees k at.0 at.1 in
    let stands : Stands trees k tree = slice_get_read trees (length trees) k tree refl inside c.index-trees-place.is in
    let same = stands_one trees k at.0 tree at.1 stands in
    let enters = subst (λ (t : NumberedTree). Enters (edges_of t) c.args.event.n c.in-Some.place.mode) same at.2 in
    let path = family c.path_to.new.ops c.in_ok-path.path.n in
    ok_map c.least_up_to.result
    (λ n l. λ gates. record {
      in_store = l.in_store;
      least = event_least c.args.order trees c.requires.numbered c.requires.apart c.requires.different k tree stands
          c.args.event.n c.in-Some.place.mode enters path
          (path_family (edges_of tree) c.in-Some.place.mode path c.in_ok-path.ensures.path)
          (family c.least_up_to.new.ops n.n) l.least;
    })
    c.least_up_to.ensures.least
