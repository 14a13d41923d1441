use Rattle.std.proofs.Common.{◌≡◌, ◌<◌, ◌≤◌, ◌-◌, length, get_or, true, false}
use Rattle.std.specs.List.{AllWithin}
use Rattle.domains.specs.Values.{is_before}
use Rattle.eq_build.specs.declared.groups.Group.{Group}
use Rattle.eq_build.proofs.groups.place_of.Given as goal

abbrev pub invariant-loop-low : goal.invariant-loop-low
invariant-loop-low l = record {
  order : l.low ≤ l.high;
  within : l.high ≤ length l.groups;
  lower : AllWithin (λ (p : Group). is_before p.value l.value ≡ true) l.groups 0 l.low;
  upper : l.high < length l.groups → (d : Group) → is_before (get_or l.groups l.high d).value l.value ≡ false;
}

abbrev pub decreases-loop-low : goal.decreases-loop-low
decreases-loop-low l = l.high - l.low
