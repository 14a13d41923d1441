use Rattle.std.proofs.Common.{◌≡◌, min, take}
use Rattle.std.specs.List.{flat_map}
use Rattle.gts_core.specs.Bound.{NumberedConditions, assigns_under}
use Rattle.gts_core.specs.declared.bound.Act.{Act}
use Rattle.gts_flatten.specs.Sizes.{assigns_nodes, condition_nodes}
use Rattle.gts_flatten.proofs.acts.+act_nodes.Given as goal

abbrev pub invariant-acts_nodes-loop-act : goal.invariant-acts_nodes-loop-act
invariant-acts_nodes-loop-act l = (cs : NumberedConditions) → l.above ≡ min 1000001 (condition_nodes cs)
    → l.total ≡ min 1000001 (assigns_nodes (flat_map (λ (a : Act). assigns_under a cs) (take l.act-index l.acts)))
