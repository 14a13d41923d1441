use Rattle.std.proofs.Common.{◌∷◌, [], ◌++◌, take, take_all, get_or, sym, subst}
use Rattle.std.proofs.lemmas.List.{take_more}
use Rattle.ar_base.proofs.Standing.{stands_get, stands_map}
use Rattle.zdd_nodes.specs.Nodes.{NodeId, family}
use Rattle.gate_diagrams.specs.Walked.{families_left, AreHalves}
use Rattle.gate_diagrams.proofs.Stepping.{lacks_at, halves_none, halves_more}
use Rattle.gate_diagrams.proofs.states.halves.Goals as goal

abbrev nothing : NodeId
nothing = record { n = 0; of = record {} }

pub loop-tree-init : goal.loop-tree-init
loop-tree-init c =
    subst (λ ns. AreHalves c.args.trees.now c.args.event.n c.args.taken [] ns) (sym c.new-made.ensures.items)
    (halves_none c.args.trees.now c.args.event.n c.args.taken)

pub half-requires-clause-least : goal.half-requires-clause-least
half-requires-clause-least c = λ x l.
    let k = c.loop-tree.tree-index in
    let tree = get_or c.args.left.now k nothing in
    lacks_at x (families_left c.args.trees.now c.args.left.now) k (family c.args.trees.now tree.n)
    (stands_map (λ (n : NodeId). family c.args.trees.now n.n) c.args.left.now k tree
    (stands_get c.args.left.now k nothing c.loop-tree-test.true)) (c.requires.least x l)

pub loop-tree-preserved : goal.loop-tree-preserved
loop-tree-preserved c =
    let k = c.loop-tree.tree-index in
    let tree = get_or c.args.left.now k nothing in
    subst (λ os. AreHalves c.args.trees.now c.args.event.n c.args.taken os c.push.new.self.items)
    (sym (take_more c.args.left.now k nothing c.loop-tree-test.true))
    (subst (λ ns. AreHalves c.args.trees.now c.args.event.n c.args.taken (take k c.args.left.now ++ tree ∷ []) ns)
    (sym c.in_ok-push.ensures.items)
    (halves_more c.args.trees.now c.args.event.n c.args.taken (take k c.args.left.now) c.loop-tree.made.items tree
    c.half.result c.loop-tree.invariant c.half.ensures))

pub returns : goal.returns
returns c =
    subst (λ os. AreHalves c.args.trees.now c.args.event.n c.args.taken os c.loop-tree.made.items)
    (take_all c.loop-tree.tree-index c.args.left.now c.loop-tree-test.false) c.loop-tree.invariant
