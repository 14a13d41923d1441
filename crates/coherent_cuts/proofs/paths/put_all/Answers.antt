use Rattle.std.proofs.Common.{◌≡◌, ◌+◌, ◌<◌, length, get_or, take, refl, sym, ap, subst, arith, length-take}
use Rattle.std.proofs.lemmas.List.{take_more}
use Rattle.coherent_cuts.specs.Places.{Puts}
use Rattle.coherent_cuts.proofs.OnPaths.{no_edge}
use Rattle.coherent_cuts.proofs.Placing.{puts_none, puts_more}
use Rattle.coherent_cuts.proofs.paths.put_all.Goals as goal

pub loop-place-init : goal.loop-place-init
loop-place-init c = puts_none c.args.tree c.args.places.now

pub loop-place-preserved : goal.loop-place-preserved
loop-place-preserved c =
    let edges = c.args.edges.now in
    let i = c.loop-place.place in
    let inside : i < length edges = c.loop-place-test.true in
    let long : length (take i edges) ≡ i = grind (arith, length-take, inside) in
    subst (λ es. Puts es c.args.tree c.args.places.now c.insert.new.self)
    (sym (take_more edges i no_edge inside))
    (puts_more (take i edges) (get_or edges i no_edge) c.args.tree (record { tree = c.args.tree; mode = i + 1 }) refl
    (ap (λ n. n + 1) (sym long)) c.args.places.now c.loop-place.places c.insert.new.self
    c.in_ok-insert.ensures.updates c.loop-place.invariant)
