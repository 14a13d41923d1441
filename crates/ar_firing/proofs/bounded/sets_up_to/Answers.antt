use Rattle.std.proofs.Common.{ℕ, List}
use Rattle.ar_base.specs.Sets.{Within}
use Rattle.ar_base.proofs.Sets.{within_self}
use Rattle.ar_firing.specs.Cuts.{Makes}
use Rattle.ar_firing.specs.Operands.{IsFirableWith}
use Rattle.ar_firing.proofs.SmallSets.{part_up_to, few_more, least_of_small, small_and_least, free_up_to, free_within, told_free}
use Rattle.ar_firing.proofs.Cutting.{made_within, counted_within, calm_within}
use Rattle.ar_firing.proofs.MakingLines.{line_within}
use Rattle.ar_firing.proofs.Meeting.{met_is_conflicting}
use Rattle.ar_firing.proofs.OrderedSets.{has_order_within, flows_told}
use Rattle.ar_firing.proofs.bounded.sets_up_to.Goals as goal

pub returns-clause-parts_too : goal.returns-clause-parts_too
returns-clause-parts_too g c = λ order set part w u. part_up_to order w u

pub returns-clause-larger_orders : goal.returns-clause-larger_orders
returns-clause-larger_orders g c = λ k n set m h. few_more m h

pub returns-clause-least_up_to : goal.returns-clause-least_up_to
returns-clause-least_up_to g c = λ order sys dropped observer wanted set. (
  least_of_small order (Makes sys dropped observer wanted),
  small_and_least order (Makes sys dropped observer wanted),
)

pub returns-clause-free_up_to : goal.returns-clause-free_up_to
returns-clause-free_up_to g c = λ order sys dropped free. free_up_to order sys dropped free

pub returns-clause-calm_up_to : goal.returns-clause-calm_up_to
returns-clause-calm_up_to g c = λ order sys dropped both observer wanted conflict top agrees free set t u f.
    calm_within sys dropped both.keyed both.static observer wanted conflict top agrees set
    (free_within order sys dropped free set u) set t (within_self set) f

pub returns-clause-makes_up_to : goal.returns-clause-makes_up_to
returns-clause-makes_up_to g c = λ order sys dropped both observer wanted conflict top agrees free set u.
    let calm = calm_within sys dropped both.keyed both.static observer wanted conflict top agrees set
    (free_within order sys dropped free set u) in (
      λ m. made_within sys dropped both.keyed both.static observer wanted conflict top agrees set calm m,
      λ f. counted_within sys dropped both.keyed both.static observer wanted conflict top agrees set calm f,
    )

pub returns-clause-cuts_up_to : goal.returns-clause-cuts_up_to
returns-clause-cuts_up_to g c = λ order sys dropped both observer wanted conflict top agrees free set u.
    let calm = λ (s : List ℕ) (w : Within s set). calm_within sys dropped both.keyed both.static observer wanted conflict
    top agrees s (free_within order sys dropped free s (part_up_to order w u)) in
    let on = λ (s : List ℕ) (w : Within s set) (m : Makes sys dropped observer wanted s).
    made_within sys dropped both.keyed both.static observer wanted conflict top agrees s (calm s w) m in
    let back = λ (s : List ℕ) (w : Within s set) (f : IsFirableWith sys dropped top s).
    counted_within sys dropped both.keyed both.static observer wanted conflict top agrees s (calm s w) f in (
      λ m. record { has = on set (within_self set) m.has; least = λ part w f. m.least part w (back part w f) },
      λ f. record { has = back set (within_self set) f.has; least = λ part w m. f.least part w (on part w m) },
    )

pub returns-clause-lines_up_to : goal.returns-clause-lines_up_to
returns-clause-lines_up_to g c = λ order sys dropped both observer wanted conflict top agrees free set ls u m h.
    line_within sys dropped both.keyed both.static observer wanted conflict top agrees
    (calm_within sys dropped both.keyed both.static observer wanted conflict top agrees set
    (free_within order sys dropped free set u)) m h

pub returns-clause-free_by_tests_up_to : goal.returns-clause-free_by_tests_up_to
returns-clause-free_by_tests_up_to g c = λ order sys dropped both observer wanted conflict top agrees calm.
    told_free order sys dropped (λ set u m.
    let f = met_is_conflicting sys dropped both.keyed both.static observer wanted conflict top agrees m in
    let e = calm set f.values u f.is_firable in let h = f.holds in cc)

pub returns-clause-told_up_to : goal.returns-clause-told_up_to
returns-clause-told_up_to g c = λ told order sys dropped both free set t u f.
    has_order_within sys dropped both.keyed both.static (free_within order sys dropped free set u)
    (flows_told sys dropped both.keyed both.static told) f
