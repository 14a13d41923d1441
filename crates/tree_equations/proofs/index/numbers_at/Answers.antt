use Rattle.std.proofs.Common.{ℕ, List, [], ◌∷◌, ◌++◌, ◌+◌, take, get_or, sym, subst, take_all}
use Rattle.std.proofs.lemmas.List.{take_more}
use Rattle.ar_base.specs.Lists as l
use Rattle.ar_base.proofs.Standing.{stands_get, one_here}
use Rattle.ar_base.proofs.Items.{along_push}
use Rattle.tree_equations.specs.Blocks.{StandAtPlaces}
use Rattle.tree_equations.proofs.index.numbers_at.Goals as goal

pub loop-place-init : goal.loop-place-init
loop-place-init c =
    subst (λ (z : List ℕ). StandAtPlaces c.args.flows.now [] z) (sym c.new-numbers.ensures.items) l.none

pub bounds-flows-place : goal.bounds-flows-place
bounds-flows-place c =
    let ps = c.args.places.now in
    let i = c.loop-place.place-index in
    c.requires (get_or ps i 0) (one_here ps i (get_or ps i 0) (stands_get ps i 0 c.loop-place-test.true))

pub loop-place-preserved : goal.loop-place-preserved
loop-place-preserved c =
    let ps = c.args.places.now in
    let fs = c.args.flows.now in
    let i = c.loop-place.place-index in
    let k = get_or ps i 0 in
    let under = c.requires k (one_here ps i k (stands_get ps i 0 c.loop-place-test.true)) in
    subst (λ (z : List ℕ). StandAtPlaces fs (take (i + 1) ps) z) (sym c.in_ok-push.ensures.items)
    (subst (λ (z : List ℕ). StandAtPlaces fs z (c.loop-place.numbers.items ++ get_or fs k 0 ∷ []))
    (sym (take_more ps i 0 c.loop-place-test.true))
    (along_push _ _ k (get_or fs k 0) c.loop-place.invariant (stands_get fs k 0 under)))

pub returns : goal.returns
returns c =
    subst (λ (z : List ℕ). StandAtPlaces c.args.flows.now z c.loop-place.numbers.items)
    (take_all c.loop-place.place-index c.args.places.now c.loop-place-test.false) c.loop-place.invariant
