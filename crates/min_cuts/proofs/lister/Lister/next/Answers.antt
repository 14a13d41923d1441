use Rattle.std.proofs.Common.{◌≡◌, ◌<◌, ◌≤◌, List, ◌∷◌, ℕ, map, length, get_or, refl, sym, ap, ◌∙◌, subst, arith}
use Rattle.std.specs.List.Sorted.{IsPermutation}
use Rattle.std.proofs.lemmas.List.{length-map}
use Rattle.ar_base.specs.Lists.{Stands}
use Rattle.ar_base.specs.NumbersInside.{EventId}
use Rattle.min_cuts.specs.Kept.{numbers_of_set, taken_events, to_give, events_in_order}
use Rattle.min_cuts.specs.declared.steps.Step.{Step}
use Rattle.min_cuts.proofs.Going.{first_inside, first_spots, spots_long, listing_goes, first_gives}
use Rattle.min_cuts.proofs.lister.Lister.next.Goals as goal

pub find_spots-requires-clause-placed : goal.find_spots-requires-clause-placed
find_spots-requires-clause-placed c =
    let down = c.descend.new.steps.items in
    subst (λ (z : List Step). (k e : ℕ) → Stands (taken_events z) k e
    → e < length c.deref-2.result.now) (sym c.deref.ensures.value)
    (subst (λ (z : List ℕ). (k e : ℕ) → Stands (taken_events down) k e → e < length z) (sym c.deref-2.ensures.value)
    (first_inside c.self.inside c.self.invariant down c.descend.ensures.first))

-- what the places of the set's events are
shuffled : (places places2 : List ℕ) (down down2 : List Step) (spots : List ℕ) → places2 ≡ places → down2 ≡ down
    → IsPermutation (map (λ e. get_or places2 e 0) (taken_events down2)) spots
    → IsPermutation (map (λ e. get_or places e 0) (taken_events down)) spots
shuffled places places2 down down2 spots p d h =
    subst (λ (z : List ℕ). IsPermutation (map (λ e. get_or z e 0) (taken_events down)) spots) p
    (subst (λ (z : List Step). IsPermutation (map (λ e. get_or places2 e 0) (taken_events z)) spots) d h)

pub name_spots-requires-clause-inside : goal.name_spots-requires-clause-inside
name_spots-requires-clause-inside c =
    let i = c.self.inside in
    let down = c.descend.new.steps.items in
    let spots = c.find_spots.new.spots.items in
    let moved = shuffled i.places.items c.deref-2.result.now down c.deref.result.now spots c.deref-2.ensures.value
    c.deref.ensures.value c.find_spots.ensures.spots in
    let in_order = first_spots i c.self.invariant down c.descend.ensures.first spots moved c.find_spots.ensures.sorted
    in
    λ k p s. subst (λ n. p < n) (length-map i.order.items (λ (x : EventId). x.n)
    ∙ ap length (sym c.deref-3.ensures.value))
    (in_order k p (subst (λ (z : List ℕ). Stands z k p) c.deref-4.ensures.value s))

pub name_spots-requires-clause-room : goal.name_spots-requires-clause-room
name_spots-requires-clause-room c =
    let i = c.self.inside in
    let down = c.descend.new.steps.items in
    let spots = c.find_spots.new.spots.items in
    let moved = shuffled i.places.items c.deref-2.result.now down c.deref.result.now spots c.deref-2.ensures.value
    c.deref.ensures.value c.find_spots.ensures.spots in
    let long : length spots ≡ length down = spots_long i c.self.invariant down c.descend.ensures.first spots moved
    c.find_spots.ensures.sorted in
    let fits : length down ≤ i.longest = c.descend.ensures.fits i.longest c.self.invariant.next_fits in
    omega (arith, long, fits, c.self.invariant.room_for_given, ap length c.deref-4.ensures.value)

pub invariant_of-self-2 : goal.invariant_of-self-2
invariant_of-self-2 c =
    let i = c.self.inside in
    let back = c.retreat-self-inside in
    let rests = c.descend.ensures.rests i.longest c.self.invariant.next_fits c.self.invariant.rests_fit in
    listing_goes i c.self.invariant c.descend.new.steps.items c.descend.ensures.first back.new.steps back.result
    (back.ensures.next i.store)
    c.find_spots.new.spots c.name_spots.new.given
    (back.ensures.fits i.store i.longest rests (omega arith))
    (back.ensures.rests i.store i.longest rests) back.ensures.ends
    (omega (arith, c.self.invariant.room_for_steps, c.descend.ensures.capacity, back.ensures.capacity))
    (omega (arith, c.self.invariant.room_for_spots, c.find_spots.ensures.capacity))
    (omega (arith, c.self.invariant.room_for_given, c.name_spots.ensures.capacity))

pub returns : goal.returns
returns c =
    let i = c.self.inside in
    let order = numbers_of_set i.order.items in
    let down = c.descend.new.steps.items in
    let spots = c.find_spots.new.spots.items in
    let back = c.retreat-self-inside in
    let moved = shuffled i.places.items c.deref-2.result.now down c.deref.result.now spots c.deref-2.ensures.value
    c.deref.ensures.value c.find_spots.ensures.spots in
    let named : numbers_of_set c.name_spots.new.given.items ≡ map (λ p. get_or order p 0) spots =
    c.name_spots.ensures.given
    ∙ ap (λ (z : List EventId). map (λ p. get_or (numbers_of_set z) p 0) c.deref-4.result.now) c.deref-3.ensures.value
    ∙ ap (map (λ p. get_or order p 0)) c.deref-4.ensures.value in
    let given : numbers_of_set c.as_slice.result.now ≡ map (λ p. get_or order p 0) spots = ap numbers_of_set c.as_slice.ensures.value
    ∙ named in
    let gives : c.args.self.now ≡ numbers_of_set c.as_slice.result.now ∷ map (events_in_order order)
    (to_give i.store back.new.steps.items back.result.n) =
    sym c.self.view_is ∙ first_gives i c.self.invariant down c.descend.ensures.first spots moved
    c.find_spots.ensures.sorted
    back.new.steps.items back.result.n (back.ensures.next i.store) (numbers_of_set c.as_slice.result.now) given in (
      (refl, λ _. tt, gives),
      record {
        goes_on = tt;
        first =
            (map (events_in_order order) (to_give i.store back.new.steps.items back.result.n), gives);
      },
    )
