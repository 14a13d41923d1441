use Rattle.std.proofs.Common.{ℕ, rules, of_calls, slice_index}
use Rattle.std.proofs.lemmas.Fn.{always_returns_same}
use Rattle.std.proofs.lemmas.List.Sorted.{Contains-permutation, IsNonDecreasingBy-from_sort, IsPermutation-sym}
use Rattle.ar_base.proofs.Standing.{contains_one, one_contains}
use Rattle.sync_expand.proofs.counting.by_rank.Goals as goal

pub returns : goal.returns
returns c =
    let old = c.in_ok-order.order.items in
    let new = c.sort_by_key.new.self.items in
    let moved = c.sort_by_key.ensures.permutation in
    let key : ℕ → ℕ = λ n. slice_index c.args.ranks.now n in
    record {
      all = λ n l. one_contains new n
          (Contains-permutation old new n moved (contains_one old n (c.in_ok-order.ensures.all n l)));
      below = λ n o. c.in_ok-order.ensures.below n
          (one_contains old n
          (Contains-permutation new old n (IsPermutation-sym old new moved) (contains_one new n o)));
      rises = IsNonDecreasingBy-from_sort key _
          (c.in_ok-sort_by_key.ensures.sorted key
          (always_returns_same _ _ _ (λ a r f k. search (rules, of_calls))));
    }
