use Rattle.std.proofs.Common.{Some, None}
use Rattle.ar_firing.specs.Cuts.{Cut}
use Rattle.job_laws.proofs.Orders.{wider, line_there}
use Rattle.job_laws.proofs.order_laws.larger_orders_only_add.Goals as goal

pub returns-clause-larger_orders_only_add : goal.returns-clause-larger_orders_only_add
returns-clause-larger_orders_only_add g c =
    λ names sys dropped static observer wanted k n l text whole small large line o.
    line_there names sys dropped static observer wanted (Some k) (Some n)
    (λ set h. wider k n l (Cut sys dropped observer wanted) set h) text whole small large line o

pub returns-clause-all_cuts_have_the_small : goal.returns-clause-all_cuts_have_the_small
returns-clause-all_cuts_have_the_small g c =
    λ names sys dropped static observer wanted k text whole small all line o.
    line_there names sys dropped static observer wanted (Some k) None (λ set h. h.0) text whole small all line o
