use Rattle.std.proofs.Common.{◌≡◌, Some, None, rules, subst}
use Rattle.std.proofs.lemmas.Result.{on_ok_weaker}
use Rattle.ar_base.proofs.Standing.{stands_one, stands_within}
use Rattle.mode_diagrams.specs.Lacking.{tree_place_of}
use Rattle.diagram_steps.specs.Trees.{TreeHasEvent}
use Rattle.event_order.proofs.Taking.{tree_fresh, meets_one, meets_none}
use Rattle.event_order.proofs.numbering.Numbering.meet.Goals as goal

pub take-requires-clause-place : goal.take-requires-clause-place
take-requires-clause-place c =
    let put : tree_place_of c.args.places.now c.args.event ≡ Some c.in-Some.place = search rules in
    let w = c.requires.placed.sound c.args.event c.in-Some.place put in
    stands_within c.args.trees.now c.in-Some.place w.0 w.1

pub take-requires-clause-fresh : goal.take-requires-clause-fresh
take-requires-clause-fresh c = λ tree st.
    let trees = c.args.trees.now in
    let e = c.args.event.n in
    let put : tree_place_of c.args.places.now c.args.event ≡ Some c.in-Some.place = search rules in
    let w = c.requires.placed.sound c.args.event c.in-Some.place put in
    tree_fresh c.args.self.now.numbers.names.items trees c.args.self.now.trees.items c.requires.taken.trees_are
    c.requires.apart c.in-Some.place tree st e
    (subst (λ t. TreeHasEvent t e) (stands_one trees c.in-Some.place w.0 tree w.1 st) w.2) (c.has.ensures.no c.if-has.false)

pub returns-in_default : goal.returns-in_default
returns-in_default c =
    let lacks : tree_place_of c.args.places.now c.args.event ≡ None = search rules in
    meets_none c.args.trees.now c.args.event c.args.places.now c.args.self.now c.requires.placed lacks c.requires.taken

pub returns : goal.returns
returns c =
    let put : tree_place_of c.args.places.now c.args.event ≡ Some c.in-Some.place = search rules in
    let w = c.requires.placed.sound c.args.event c.in-Some.place put in
    on_ok_weaker c.take.result
    (meets_one c.args.trees.now c.args.event.n c.in-Some.place c.args.self.now c.take.new.self w.0 c.requires.apart w.1 w.2)
    c.take.ensures
