use Rattle.std.proofs.Common.{◌≡◌, List, [], ℕ, sym, ap, subst, arith}
use Rattle.ar_base.specs.Lists.{AreDifferent}
use Rattle.ar_base.specs.Lists.Along.{none as nothing}
use Rattle.ar_base.specs.NumbersInside.{EventId}
use Rattle.mode_trees.specs.Views.{trees_of}
use Rattle.zdd_nodes.specs.Families.{Family}
use Rattle.zdd_nodes.specs.Nodes.{family}
use Rattle.min_cuts.specs.Lines.{AreInFiringOrder}
use Rattle.min_cuts.specs.Kept.{numbers_of_set, AreEventPlaces}
use Rattle.min_cuts.specs.declared.lister.Lister.TheInside.{Inside}
use Rattle.min_cuts.proofs.Firing.{events_different}
use Rattle.min_cuts.proofs.Going.{listing_begins, lines_begin}
use Rattle.min_cuts.proofs.lister.Lister.open.Goals as goal

pub places_of-requires : goal.places_of-requires
places_of-requires c =
    subst (λ (z : List EventId). AreDifferent (numbers_of_set z)) (sym c.deref.ensures.value)
    (subst AreDifferent (sym c.in_ok-order.ensures)
    (events_different (trees_of (λ n. n) c.args.forest.now) c.requires.trees))

pub invariant_of-result : goal.invariant_of-result
invariant_of-result c =
    let l : Inside = record {
      store = c.args.family.store;
      steps = c.in_ok-steps.steps;
      next = c.args.family.root;
      order = c.in_ok-order.order;
      places = c.in_ok-places.places;
      spots = c.in_ok-spots.spots;
      given = c.in_ok-given.given;
      longest = c.in_ok-longest.field-0;
    } in
    listing_begins (trees_of (λ n. n) c.args.forest.now) l c.requires.firable c.in_ok-steps.ensures.items
    c.in_ok-order.ensures
    c.in_ok-longest.ensures.sound c.requires.root
    (subst (λ (z : List EventId). AreEventPlaces (numbers_of_set z) c.in_ok-places.places.items) c.deref.ensures.value
    c.in_ok-places.ensures)
    c.in_ok-longest.ensures.largest (omega (arith, c.in_ok-steps.ensures.capacity))
    (omega (arith, c.in_ok-spots.ensures.capacity))
    (omega (arith, c.in_ok-given.ensures.capacity))

pub returns-then-root-eq0-clause-lines : goal.returns-then-root-eq0-clause-lines
returns-then-root-eq0-clause-lines c =
    let trees = trees_of (λ n. n) c.args.forest.now in
    let none : family c.args.family.store c.args.family.root.n ≡ [] =
    ap (family c.args.family.store) c.if-root-eq0.true in
    subst (λ (z : List (List ℕ)). AreInFiringOrder trees (family c.args.family.store c.args.family.root.n) z)
    (sym c.ended.ensures)
    (subst (λ (z : Family). AreInFiringOrder trees z []) (sym none) nothing)

pub returns-clause-lines : goal.returns-clause-lines
returns-clause-lines c =
    let l : Inside = record {
      store = c.args.family.store;
      steps = c.in_ok-steps.steps;
      next = c.args.family.root;
      order = c.in_ok-order.order;
      places = c.in_ok-places.places;
      spots = c.in_ok-spots.spots;
      given = c.in_ok-given.given;
      longest = c.in_ok-longest.field-0;
    } in
    lines_begin (trees_of (λ n. n) c.args.forest.now) l c.requires.firable c.in_ok-steps.ensures.items
    c.in_ok-order.ensures c.requires.trees
