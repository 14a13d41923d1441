use Rattle.std.proofs.Common.{ℕ, length, rules, refl}
use Rattle.flow_propagate.specs.Closing.{IsAddedAgain}
use Rattle.flow_propagate.proofs.Worklists.{all_work, all_wait}
use Rattle.flow_propagate.proofs.worklist.all_waiting.Goals as goal

pub returns-clause-is : goal.returns-clause-is
returns-clause-is c =
    let none : (p : ℕ) → IsAddedAgain c.new-again.result p → ⊥ = search rules in
    all_work (length c.args.places.now)
    (record { order = c.args.order; places = c.args.places; fresh = 0; again = c.new-again.result })
    c.requires.order refl c.requires.placed refl none

pub returns-clause-all : goal.returns-clause-all
returns-clause-all c = λ n h. all_wait (length c.args.places.now) n
    (record { order = c.args.order; places = c.args.places; fresh = 0; again = c.new-again.result }) refl refl h
