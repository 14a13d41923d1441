use Rattle.std.proofs.Common.{◌≡◌, Some, length, refl, ap, ◌∙◌, rules, subst, arith}
use Rattle.std.proofs.lemmas.Option.{slice_get_read}
use Rattle.ar_base.specs.Lists.{Stands}
use Rattle.ar_base.proofs.Standing.{stands_one, stands_within}
use Rattle.mode_nodes.specs.Diagrams.{choice}
use Rattle.diagram_steps.specs.declared.trees.NumberedTree.{NumberedTree}
use Rattle.diagram_steps.specs.Trees.{TreeHasEvent}
use Rattle.mode_diagrams.specs.Lacking.{tree_place_of}
use Rattle.mode_diagrams.proofs.Laws.{told_agrees, choice_tells}
use Rattle.mode_diagrams.proofs.events.event_diagram.Goals as goal

pub bounds-trees-place : goal.bounds-trees-place
bounds-trees-place c =
    let found : tree_place_of c.args.places.now c.args.event ≡ Some c.in-Some.place = search rules in
    let at = c.requires.placed.sound c.args.event c.in-Some.place found in
    stands_within c.args.trees.now c.in-Some.place at.0 at.1

pub told-requires : goal.told-requires
told-requires c =
    let trees = c.args.trees.now in
    let k = c.in-Some.place in
    let tree = c.index-trees-place.result in
    let found : tree_place_of c.args.places.now c.args.event ≡ Some k = search rules in
    let at = c.requires.placed.sound c.args.event k found in
    let inside = stands_within trees k at.0 at.1 in
    let stands : Stands trees k tree = slice_get_read trees (length trees) k tree refl inside c.index-trees-place.is in
    c.requires.numbered.each k tree stands

pub choice-requires-clause-few : goal.choice-requires-clause-few
choice-requires-clause-few c =
    let trees = c.args.trees.now in
    let k = c.in-Some.place in
    let tree = c.index-trees-place.result in
    let found : tree_place_of c.args.places.now c.args.event ≡ Some k = search rules in
    let at = c.requires.placed.sound c.args.event k found in
    let inside = stands_within trees k at.0 at.1 in
    let stands : Stands trees k tree = slice_get_read trees (length trees) k tree refl inside c.index-trees-place.is in
    let few = c.requires.small.each k tree stands in
    omega (arith, few, c.in_ok-told.ensures.long, ap length c.deref.ensures.value)

pub returns-clause-agrees : goal.returns-clause-agrees
returns-clause-agrees c = λ gates.
    let trees = c.args.trees.now in
    let k = c.in-Some.place in
    let tree = c.index-trees-place.result in
    let found : tree_place_of c.args.places.now c.args.event ≡ Some k = search rules in
    let at = c.requires.placed.sound c.args.event k found in
    let inside = stands_within trees k at.0 at.1 in
    let stands : Stands trees k tree = slice_get_read trees (length trees) k tree refl inside c.index-trees-place.is in
    let same = stands_one trees k at.0 tree at.1 stands in
    let has = subst (λ (t : NumberedTree). TreeHasEvent t c.args.event.n) same at.2 in
    let told = c.in_ok-told.ensures in
    let d = c.in_ok-drawn.ensures.drawn.ok in
    told_agrees trees gates k c.args.event.n tree stands c.requires.apart has
    c.in_ok-told.told.items told c.choice.new.self c.in_ok-drawn.drawn.n d.number
    (λ modes n st. d.value modes
    ∙ ap (λ ns. choice c.args.store.now.store k ns modes) c.deref.ensures.value
    ∙ choice_tells tree c.args.event.n c.in_ok-told.told.items told c.args.store.now.store k modes n st)

pub returns-clause-known : goal.returns-clause-known
returns-clause-known c = λ none.
    let k = c.in-Some.place in
    let found : tree_place_of c.args.places.now c.args.event ≡ Some k = search rules in
    let at = c.requires.placed.sound c.args.event k found in
    none.none k at.0 at.1 at.2
