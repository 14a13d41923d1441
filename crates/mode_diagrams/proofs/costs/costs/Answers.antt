use Rattle.std.proofs.Common.{ℕ, ◌+◌, [], ◌∷◌, length, Vec, refl, sym, ap, ◌∙◌, subst}
use Rattle.std.specs.Global.{Global}
use Rattle.std.proofs.lemmas.List.{map-append}
use Rattle.std.proofs.lemmas.Option.{slice_get_read}
use Rattle.ar_base.specs.Lists.{Stands}
use Rattle.mode_nodes.specs.Bounds.{costs_of}
use Rattle.mode_diagrams.specs.Costs.{AreCostsOf}
use Rattle.mode_diagrams.proofs.Paying.{costs_of_more}
use Rattle.mode_diagrams.proofs.costs.costs.Goals as goal

pub loop-place-preserved : goal.loop-place-preserved
loop-place-preserved c =
    let trees = c.args.trees.now in
    let k = c.loop-place.place in
    let tree = c.index-trees-place.result in
    let costs = c.loop-place.costs.items in
    let made = c.in_ok-tree_costs.field-0 in
    let stands : Stands trees k tree =
    slice_get_read trees (length trees) k tree refl c.loop-place-test.true c.index-trees-place.is in
    subst (AreCostsOf trees (k + 1))
    (sym (ap costs_of c.in_ok-push.ensures.items ∙ map-append (λ (v : Vec ℕ Global). v.items) costs (made ∷ [])))
    (costs_of_more trees k tree (costs_of costs) made.items stands c.loop-place.invariant c.in_ok-tree_costs.ensures)
