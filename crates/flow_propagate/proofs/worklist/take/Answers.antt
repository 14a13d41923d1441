use Rattle.std.proofs.Common.{ℕ, List, length, ◌<◌, get_or, subst, sym, rules}
use Rattle.std.proofs.lemmas.Option.{slice_get-get_or}
use Rattle.flow_propagate.proofs.Worklists.{none_waits, takes_one}
use Rattle.flow_propagate.proofs.worklist.take.Goals as goal

pub returns-in_err-place : goal.returns-in_err-place
returns-in_err-place c = let h = none_waits (length c.args.work.now.places.now) c.args.work.now c.requires c.in_err-place.ensures in search (rules, h)

pub returns : goal.returns
returns c =
    let t = c.in_ok-place.ensures in
    let new = c.take_place.new.work in
    let place = c.in_ok-place.place in
    takes_one (length c.args.work.now.places.now) (get_or new.order.now place 0) place c.args.work.now new c.requires t
    (slice_get-get_or new.order.now place 0 (subst (λ (z : List ℕ). place < length z) (sym t.order) t.below))
