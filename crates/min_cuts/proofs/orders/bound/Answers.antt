use Rattle.std.proofs.Common.{◌≡◌, ◌⊎◌, ℕ, ◌<◌, ◌+◌, max, ⊎_elim, get_or, sym, ap, ◌∙◌, arith, List}
use Rattle.std.proofs.lemmas.List.{length-map}
use Rattle.std.proofs.lemmas.Option.{get_or_from_slice_get}
use Rattle.ar_base.specs.Lists.{Stands}
use Rattle.ar_base.specs.NumbersInside.{EventId}
use Rattle.ar_base.proofs.Standing.{stands_map_back, stands_within}
use Rattle.min_cuts.specs.Kept.{numbers_of_set}
use Rattle.min_cuts.proofs.orders.bound.Goals as goal

number_at : (order : List EventId) (k e : ℕ) (d : EventId) → Stands (numbers_of_set order) k e → (get_or order k d).n ≡ e
number_at order k e d s =
    let b = stands_map_back (λ (x : EventId). x.n) order k e s in
    ap (λ (x : EventId). x.n) (get_or_from_slice_get order k b.0 d b.1) ∙ b.2

bound_goes : (order : List EventId) (i b r : ℕ) (d : EventId) → ((k e : ℕ) → k < i → Stands (numbers_of_set order) k e → e < b)
    → r ≡ max b ((get_or order i d).n + 1) → (k e : ℕ) → k < i + 1 → Stands (numbers_of_set order) k e → e < r
bound_goes order i b r d h m k e l s = by (number_at order k e d s) (λ l. h k e l s)
  where
    last : (n : ℕ) → n ≡ e → r ≡ max b (n + 1) → e < r
    last n q w = omega arith

    earlier : (n : ℕ) → e < b → r ≡ max b (n + 1) → e < r
    earlier n q w = omega arith

    by : (get_or order k d).n ≡ e → (k < i → e < b) → e < r
    by q f = ⊎_elim
        (λ (z : k < i). earlier (get_or order i d).n (f z) m)
        (λ (z : k ≡ i). last (get_or order i d).n (ap (λ j. (get_or order j d).n) (sym z) ∙ q) m)
        (which k i l)
      where
        which : (k i : ℕ) → k < i + 1 → (k < i) ⊎ (k ≡ i)
        which k i l = grind arith

pub loop-event-preserved : goal.loop-event-preserved
loop-event-preserved c = bound_goes c.args.order.now c.loop-event.event-index c.loop-event.bound c.max-bound.result
    (record { n = 0; of = record {} }) c.loop-event.invariant c.max-bound.ensures

pub returns : goal.returns
returns c = λ k e s. c.loop-event.invariant k e
    (omega (
      arith,
      stands_within (numbers_of_set c.args.order.now) k e s,
      length-map c.args.order.now
          (λ (x : EventId). x.n),
      c.loop-event-test.false,
    )) s
