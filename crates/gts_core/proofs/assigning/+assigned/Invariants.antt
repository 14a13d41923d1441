use Rattle.std.proofs.Common.{◌≡◌, take}
use Rattle.gts_core.specs.Bound.{GiveAll, conditions_in}
use Rattle.gts_core.proofs.assigning.+assigned.Given as goal

abbrev pub invariant-all_assigned-loop-act : goal.invariant-all_assigned-loop-act
invariant-all_assigned-loop-act l = record {
  given : GiveAll (take l.act-index l.acts) (conditions_in l.initial.when.items) l.initial.out.items l.out.items;
  kept : l.when.items ≡ l.initial.when.items;
}
