use Rattle.std.proofs.Common.{ℕ, List, rules, sym, subst, arith}
use Rattle.std.specs.List.Sorted.{IsNonDecreasingBy}
use Rattle.std.proofs.lemmas.List.Sorted.{IsNonDecreasingBy-from_sort_by_key}
use Rattle.ar_base.specs.Lists.{IsOneOf}
use Rattle.ar_base.specs.Starts.{IsPairStart}
use Rattle.ar_base.proofs.indexed.index_pairs.Goals as goal

pub count_of-requires : goal.count_of-requires
count_of-requires c = subst (λ (z : List (ℕ × ℕ)). IsNonDecreasingBy (λ (q : ℕ × ℕ). q.0) z)
    (sym c.deref-2.ensures.value)
    (IsNonDecreasingBy-from_sort_by_key (λ (q : ℕ × ℕ). q.0) _ c.sort_unstable_by_key.ensures.sorted
    (λ a r q k. search rules))

pub starts_of-requires : goal.starts_of-requires
starts_of-requires c = subst (λ (z : List (ℕ × ℕ)). IsNonDecreasingBy (λ (q : ℕ × ℕ). q.0) z)
    (sym c.deref.ensures.value)
    (IsNonDecreasingBy-from_sort_by_key (λ (q : ℕ × ℕ). q.0) _ c.sort_unstable_by_key.ensures.sorted
    (λ a r q k. search rules))

pub invariant_of-result : goal.invariant_of-result
invariant_of-result c = record {
  runs = record {
    each = λ x start s. subst (λ (z : List (ℕ × ℕ)). IsPairStart z x start) c.deref.ensures.value
        (c.in_ok-starts.ensures.each x start s);
    all = λ q o.
        let h = c.count_of.ensures.above q
        (subst (λ (z : List (ℕ × ℕ)). IsOneOf z q) (sym c.deref-2.ensures.value) o) in
        let l = c.in_ok-starts.ensures.long in omega (arith, h, l);
  };
}

pub returns : goal.returns
returns c = c.sort_unstable_by_key.ensures.permutation
