use Rattle.ar_firing.proofs.Firing.{all_firable, conflict_firable, enabled, next_edge, ready}
use Rattle.ar_firing.proofs.Ends.{one_end}
use Rattle.ar_firing.proofs.Legal.{goes_on, order_fires}
use Rattle.std.proofs.lemmas.Bool.{cases_eq}
use Rattle.ar_firing.proofs.OrderedSets.{order_is_firable, firable_has_order, told_has_order, undropped}
use Rattle.ar_firing.proofs.Replays.{replays_so, fires_so, conflict_replays}
use Rattle.ar_firing.proofs.orders.order_laws.Goals as goal

pub returns-clause-static_fires : goal.returns-clause-static_fires
returns-clause-static_fires g c = λ sys dropped both ls t r. all_firable sys dropped both.keyed both.static r

pub returns-clause-meets : goal.returns-clause-meets
returns-clause-meets g c =
    λ sys dropped both ls f r. let k = conflict_firable sys dropped both.keyed both.static r in
    (k.values, k.flows, k.is_firable)

pub returns-clause-can_fire : goal.returns-clause-can_fire
returns-clause-can_fire g c =
    λ sys dropped both set t f l n from to e s. enabled sys dropped both.keyed f both.static l n from to e s

pub returns-clause-no_other_can : goal.returns-clause-no_other_can
returns-clause-no_other_can g c =
    λ sys dropped both set t f l w o h. let e = next_edge sys dropped both.keyed both.static f l w o h in
    (e.number, e.from, e.to, e.value, e.edge)

pub returns-clause-steps : goal.returns-clause-steps
returns-clause-steps g c =
    λ sys dropped both set t f l w o h a s. let r = ready sys dropped both.keyed both.static f l w o h s in
    (r.values, r.is_firable, r.moves_to)

pub returns-clause-one_end : goal.returns-clause-one_end
returns-clause-one_end g c = λ sys dropped both ls ks t u a b h k. one_end sys dropped both.keyed both.static a b h k

pub returns-clause-goes_on : goal.returns-clause-goes_on
returns-clause-goes_on g c =
    λ sys dropped both set t later l before o r. let k = goes_on sys dropped both.keyed both.static later l before o r in
    (k.number, k.from, k.to, k.edge, k.can)

pub returns-clause-legal_orders_fire : goal.returns-clause-legal_orders_fire
returns-clause-legal_orders_fire g c = λ sys dropped both set ls o total. order_fires sys dropped both.keyed both.static ls o total

pub returns-clause-firable : goal.returns-clause-firable
returns-clause-firable g c = λ sys dropped both set t o. order_is_firable sys dropped both.keyed both.static o

pub returns-clause-order : goal.returns-clause-order
returns-clause-order g c =
    λ sys dropped both free known set t f. firable_has_order sys dropped both.keyed both.static free known f

pub returns-clause-told : goal.returns-clause-told
returns-clause-told g c =
    λ told sys dropped both free set t f. told_has_order sys dropped both.keyed both.static told free f

pub returns-clause-numbers : goal.returns-clause-numbers
returns-clause-numbers g c =
    λ sys dropped both free set t f. told_has_order sys dropped both.keyed both.static cases_eq free f

pub returns-clause-replays : goal.returns-clause-replays
returns-clause-replays g c = λ sys dropped ls u r. replays_so sys dropped r

pub returns-clause-reaches : goal.returns-clause-reaches
returns-clause-reaches g c = λ sys dropped ls t u ms steps o r f. fires_so sys dropped o r f

pub returns-clause-conflict_replays : goal.returns-clause-conflict_replays
returns-clause-conflict_replays g c = λ sys dropped ls f k. conflict_replays sys dropped k

pub returns-clause-undropped : goal.returns-clause-undropped
returns-clause-undropped g c = λ sys dropped ls t r. undropped sys dropped r
