use Rattle.std.proofs.Common.{◌∷◌, [], take, take_all, get_or, refl, sym, subst}
use Rattle.std.proofs.lemmas.List.{take_more}
use Rattle.zdd_nodes.specs.Nodes.{NodeId, family}
use Rattle.gate_diagrams.specs.Walked.{families_left, IsLeastEvent}
use Rattle.gate_diagrams.proofs.Stepping.{families_more}
use Rattle.gate_diagrams.proofs.states.least_event.Goals as goal

abbrev nothing : NodeId
nothing = record { n = 0; of = record {} }

pub loop-tree-init : goal.loop-tree-init
loop-tree-init c = λ x. refl

pub loop-tree-preserved : goal.loop-tree-preserved
loop-tree-preserved c =
    let k = c.loop-tree.tree-index in
    let trees = c.args.trees.now in
    let tree = get_or c.args.left.now k nothing in
    subst (λ os. IsLeastEvent (families_left trees os) c.sooner-least.result)
    (sym (take_more c.args.left.now k nothing c.loop-tree-test.true))
    (subst (λ fs. IsLeastEvent fs c.sooner-least.result)
    (sym (families_more trees (take k c.args.left.now) (tree ∷ [])))
    (c.sooner-least.ensures (families_left trees (take k c.args.left.now)) (family trees tree.n ∷ [])
    c.loop-tree.invariant c.first_event.ensures))

pub returns : goal.returns
returns c =
    subst (λ os. IsLeastEvent (families_left c.args.trees.now os) c.loop-tree.least)
    (take_all c.loop-tree.tree-index c.args.left.now c.loop-tree-test.false) c.loop-tree.invariant
