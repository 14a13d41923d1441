use Rattle.std.proofs.Common.{rules, of_calls}
use Rattle.std.proofs.lemmas.Fn.{always_returns_same}
use Rattle.std.proofs.lemmas.List.Sorted.{IsNonDecreasingBy-from_sort}
use Rattle.unit_rules.specs.Naming.{NameEntry}
use Rattle.unit_rules.proofs.naming.in_order.Goals as goal

pub returns-clause-ordered : goal.returns-clause-ordered
returns-clause-ordered c = IsNonDecreasingBy-from_sort (λ (e : NameEntry). e.0.n) _
    (c.in_ok-sort_by_key.ensures.sorted (λ (e : NameEntry). e.0.n)
    (always_returns_same _ _ _ (λ a r f k. search (rules, of_calls))))
