use Rattle.std.proofs.Common.{ℕ, List, subst, sym, arith}
use Rattle.std.specs.List.Sorted.{IsNonDecreasingBy}
use Rattle.ar_base.specs.Lists.{Stands, IsOneOf}
use Rattle.ar_base.proofs.Standing.{stands_map}
use Rattle.flow_propagate.specs.Runs.{Reader, IsStart}
use Rattle.flow_propagate.specs.Plan.{plain_pair}
use Rattle.flow_propagate.proofs.Worklists.{rising}
use Rattle.flow_propagate.proofs.readers.in_runs.Goals as goal

pub starts_of-requires : goal.starts_of-requires
starts_of-requires c =
    let e = c.in_ok-pairs.ensures in
    subst (λ (z : List Reader). IsNonDecreasingBy (λ (r : Reader). r.0.n) z) (sym c.deref.ensures.value)
    (rising c.in_ok-pairs.pairs.items (λ j k q r h s t. c.requires.ascending j k q r h
    (subst (λ (z : List (ℕ × ℕ)). Stands z j q) e s) (subst (λ (z : List (ℕ × ℕ)). Stands z k r) e t)))

pub invariant_of-result : goal.invariant_of-result
invariant_of-result c = record {
  runs = record {
    each = λ x start s. subst (λ (z : List Reader). IsStart z x start) c.deref.ensures.value
        (c.in_ok-starts.ensures.each x start s);
    all = λ r o.
        let h = c.requires.below (plain_pair r)
        (subst (λ (z : List (ℕ × ℕ)). IsOneOf z (plain_pair r)) c.in_ok-pairs.ensures
        (record { place = o.place; stands = stands_map plain_pair c.in_ok-pairs.pairs.items o.place r o.stands })) in
        let l = c.in_ok-starts.ensures.long in
        omega (arith, h, l);
  };
}
