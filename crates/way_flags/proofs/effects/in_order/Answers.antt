use Rattle.std.proofs.Common.{rules, of_calls}
use Rattle.std.proofs.lemmas.Fn.{always_returns_same}
use Rattle.std.proofs.lemmas.List.Sorted.{IsNonDecreasingBy-from_sort}
use Rattle.way_flags.specs.declared.effects.Effect.{Effect}
use Rattle.way_flags.proofs.effects.in_order.Goals as goal

pub returns-clause-ordered : goal.returns-clause-ordered
returns-clause-ordered c =
    IsNonDecreasingBy-from_sort (λ (e : Effect). e.target.n) _
    (c.in_ok-sort_by_key.ensures.sorted (λ (e : Effect). e.target.n)
    (always_returns_same _ _ _ (λ a r f k. search (rules, of_calls))))
