use Rattle.std.proofs.Common.{◌≡◌, ℕ, List, [], ◌∷◌, map, get_or, refl, ap, ◌∙◌, subst, take_all}
use Rattle.std.specs.List.Sorted.{IsPermutation}
use Rattle.ar_base.proofs.Standing.{stands_map, stands_get}
use Rattle.min_cuts.specs.Kept.{taken_events}
use Rattle.min_cuts.specs.declared.steps.Step.{Step}
use Rattle.min_cuts.proofs.orders.find_spots.Goals as goal

two_maps : (places : List ℕ) (steps : List Step)
    → map (λ (x : Step). get_or places x.event.n 0) steps ≡ map (λ e. get_or places e 0) (taken_events steps)
two_maps places [] = refl
two_maps places (x ∷ steps) = ap (λ z. get_or places x.event.n 0 ∷ z) (two_maps places steps)

pub bounds-places-step : goal.bounds-places-step
bounds-places-step c =
    let steps = c.args.steps.now in
    let k = c.loop-step.step-index in
    let d : Step = record { event = record { n = 0; of = record {} }; rest = record { n = 0; of = record {} } } in
    c.requires.placed k (get_or steps k d).event.n
    (stands_map (λ (x : Step). x.event.n) steps k (get_or steps k d) (stands_get steps k d c.loop-step-test.true))

pub returns-clause-spots : goal.returns-clause-spots
returns-clause-spots c =
    let places = c.args.places.now in
    let all = ap (map (λ (x : Step). get_or places x.event.n 0))
    (take_all c.loop-step.step-index c.args.steps.now c.loop-step-test.false) in
    subst (λ z. IsPermutation z c.sort_unstable.new.self.items) (c.loop-step.invariant.spots ∙ all
    ∙ two_maps places c.args.steps.now) c.sort_unstable.ensures.permutation
