use Rattle.std.proofs.Common.{subst}
use Rattle.gts_core.specs.Bound.{member_of}
use Rattle.gts_core.specs.declared.bound.DeclaredWay.{DeclaredWay}
use Rattle.sync_expand.specs.Counts.{member_count}
use Rattle.sync_expand.specs.Planning.{HasRoomForWays}
use Rattle.sync_expand.proofs.planning.plan_way.Goals as goal

pub push-requires : goal.push-requires
push-requires c = subst (λ (w : DeclaredWay). HasRoomForWays c.args.first
    (member_count c.args.numbering.now.counts.items (member_of w)) c.args.plan.now.items) c.in-Local.is c.requires.room

pub plan_choices-requires-clause-room : goal.plan_choices-requires-clause-room
plan_choices-requires-clause-room c = rw c.deref.ensures.value (subst (λ (w : DeclaredWay). HasRoomForWays c.args.first
    (member_count c.args.numbering.now.counts.items (member_of w)) c.args.plan.now.items) c.in-Sync.is c.requires.room)
