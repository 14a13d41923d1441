use Rattle.std.proofs.Common.{◌≡◌, ◌++◌, ◌↔◌, ◌<◌, ◌∙◌, ℕ, List, [], length, ap, sym, subst, Vec, Global}
use Rattle.ar_base.specs.Lists.{IsOneOf}
use Rattle.ar_base.specs.Numbers.{WayId}
use Rattle.gate_modules.specs.ShortenedInside.{event_numbers}
use Rattle.module_text.specs.Arranged.{unit_pieces, way_pieces}
use Rattle.module_text.specs.Places.{IsPlaced, pieces_at}
use Rattle.module_text.specs.declared.arranging.Piece.{Piece}
use Rattle.module_text.proofs.Placing.{spots_inside, arranged}
use Rattle.module_text.proofs.arranging.line_of.Goals as goal

pub add_ways-requires : goal.add_ways-requires
add_ways-requires c = λ p o.
    let t = c.args.table.now in
    let set = event_numbers c.args.events.now in
    let each = subst (λ (z : List (Vec ℕ Global)). (n : ℕ) → IsOneOf c.in_ok-spots.spots.items n ↔ IsPlaced z set n)
    c.deref.ensures.value c.in_ok-spots.ensures.each in
    subst (λ (z : List WayId). p < length z) (sym c.deref-2.ensures.value)
    (spots_inside c.requires.edges t c.requires.are set c.in_ok-spots.spots.items each p
    (subst (λ (z : List ℕ). IsOneOf z p) c.deref-3.ensures.value o))

pub returns : goal.returns
returns c = λ edges are.
    let t = c.args.table.now in
    let set = event_numbers c.args.events.now in
    let units = unit_pieces c.args.units.now in
    let each = subst (λ (z : List (Vec ℕ Global)). (n : ℕ) → IsOneOf c.in_ok-spots.spots.items n ↔ IsPlaced z set n)
    c.deref.ensures.value c.in_ok-spots.ensures.each in
    let ways = ap (λ (z : List WayId). pieces_at z c.deref-3.result.now) c.deref-2.ensures.value
    ∙ ap (pieces_at t.ways.items) c.deref-3.ensures.value
    ∙ arranged edges t are set c.in_ok-spots.spots.items each c.in_ok-spots.ensures.ascends in
    c.in_ok-add_ways.ensures
    ∙ ap (λ (z : List Piece). z ++ pieces_at c.deref-2.result.now c.deref-3.result.now)
    (c.in_ok-add_units.ensures ∙ ap (λ (z : List Piece). z ++ units) c.new-pieces.ensures.items)
    ∙ ap (λ (z : List Piece). units ++ z) ways
