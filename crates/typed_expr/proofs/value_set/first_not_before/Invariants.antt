use Rattle.std.proofs.Common.{◌≡◌, ◌≤◌, ◌-◌, length, true, false}
use Rattle.std.specs.List.{AllWithin}
use Rattle.domains.specs.Values.{is_before}
use Rattle.typed_expr.proofs.value_set.first_not_before.Given as goal

abbrev pub invariant-loop-low : goal.invariant-loop-low
invariant-loop-low l = record {
  order : l.low ≤ l.high;
  within : l.high ≤ length l.values;
  lower : AllWithin (λ x. is_before x l.v ≡ true) l.values 0 l.low;
  upper : AllWithin (λ x. is_before x l.v ≡ false) l.values l.high (length l.values);
}

abbrev pub decreases-loop-low : goal.decreases-loop-low
decreases-loop-low l = l.high - l.low
