use Rattle.std.proofs.Common.{◌≤◌, ◌+◌, List, ℕ, Vec, Global, length, length-set, get_or, subst, sym, ap, ◌∙◌, arith}
use Rattle.ar_base.specs.Lists.{Stands}
use Rattle.ar_base.specs.Numbers.{WayId}
use Rattle.ar_base.proofs.Standing.{stands_get}
use Rattle.way_flags.specs.Index.{ArePlacedUpTo}
use Rattle.way_flags.proofs.Indexed.{places_more, places_past, places_all}
use Rattle.way_flags.proofs.index.places_in.Goals as goal
use Rattle.way_flags.proofs.index.places_in.Goals.{then-n-len, else-n-len}

no_way : WayId
no_way = record { n = 0; of = record {} }

pub loop-place-preserved : goal.loop-place-preserved
unfolding no_way
loop-place-preserved c =
    let order = c.args.order.now in
    let i = c.loop-place.place in
    let id = get_or order i no_way in
    let at : Stands order i id = stands_get order i no_way c.loop-place-test.true in
    let inv = c.loop-place.invariant in
    elim c.if-n-len.branch [
      | then-n-len h ↦
          let same = ap (λ (z : Vec ℕ Global). z.items) h.places-is in (
            ap length same ∙ length-set c.loop-place.places.items id.n i ∙ inv.0,
            subst (λ (z : List ℕ). ArePlacedUpTo order (i + 1) z) (sym same)
                (places_more order i id c.loop-place.places.items at inv.1),
          )
      | else-n-len h ↦
          let same = ap (λ (z : Vec ℕ Global). z.items) h.places-is in
          let out : length c.loop-place.places.items ≤ id.n = (let e = h.if-n-len.false in omega (arith, e, c.len.ensures)) in (
            ap length same ∙ inv.0,
            subst (λ (z : List ℕ). ArePlacedUpTo order (i + 1) z) (sym same)
                (places_past order i id c.loop-place.places.items at out inv.1),
          )
    ]

pub returns-clause-placed : goal.returns-clause-placed
returns-clause-placed c = places_all c.args.order.now c.loop-place.place c.loop-place.places.items
    c.loop-place-test.false c.loop-place.invariant.1
