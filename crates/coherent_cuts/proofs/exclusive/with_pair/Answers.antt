use Rattle.std.proofs.Common.{◌≡◌, ◌||◌, [], ◌∷◌, ap, ap₂, ◌∙◌}
use Rattle.ar_base.proofs.Results.{ok_map}
use Rattle.zdd_nodes.specs.FamiliesInside.{node}
use Rattle.zdd_nodes.specs.Nodes.{family}
use Rattle.diagram_steps.proofs.Growing.{extends_then, extends_by, kept}
use Rattle.least_families.specs.Least.{covers}
use Rattle.coherent_cuts.proofs.Pairs.{covers_union, covers_pair}
use Rattle.coherent_cuts.proofs.exclusive.with_pair.Goals as goal

pub returns-in_err-pair-clause-grows : goal.returns-in_err-pair-clause-grows
returns-in_err-pair-clause-grows c =
    extends_then c.args.ops.now c.node.new.self c.with_event.new.ops
    (extends_by _ c.args.ops.now c.node.new.self c.in_ok-one.ensures.drawn.grows) c.in_err-pair.ensures.grows

pub returns-clause-grows : goal.returns-clause-grows
returns-clause-grows c =
    extends_then c.args.ops.now c.with_event.new.ops c.union.new.self
    (extends_then c.args.ops.now c.node.new.self c.with_event.new.ops
    (extends_by _ c.args.ops.now c.node.new.self c.in_ok-one.ensures.drawn.grows) c.in_ok-pair.ensures.grows)
    (extends_by _ c.with_event.new.ops c.union.new.self c.union.ensures.drawn.grows)

pub returns-clause-pair : goal.returns-clause-pair
returns-clause-pair c =
    let s = c.args.ops.now in
    let t = c.with_event.new.ops in
    let old = extends_then s c.node.new.self t
    (extends_by _ s c.node.new.self c.in_ok-one.ensures.drawn.grows) c.in_ok-pair.ensures.grows in
    let pairs_same = kept s t c.args.pairs.n old c.requires.in_store in
    let one : family c.node.new.self c.in_ok-one.one.n ≡ (c.args.second.n ∷ []) ∷ [] =
    c.in_ok-one.ensures.drawn.ok.1
    ∙ ap₂ (node c.args.second.n) (ap (family s) c.new.ensures) (ap (family s) c.new-2.ensures) in
    ok_map c.union.result
    (λ n w. λ x. ap (λ f. covers f x) w.1
    ∙ covers_union (family t c.args.pairs.n) (family t c.in_ok-pair.pair.n) x
    ∙ ap₂ (λ a b. a || b) (ap (λ f. covers f x) pairs_same)
    (covers_pair c.args.first.n c.args.second.n (family c.node.new.self c.in_ok-one.one.n)
    (family t c.in_ok-pair.pair.n) one c.in_ok-pair.ensures.sets x))
    c.union.ensures.drawn.ok
