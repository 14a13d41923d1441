use Rattle.std.proofs.Common.{sym, ◌∙◌}
use Rattle.flow_changes.proofs.Begun.{within_long}
use Rattle.flow_changes.proofs.Follows.{inside}
use Rattle.flow_changes.proofs.trying.attempt.Goals as goal

pub snapshot_of-requires-clause-values : goal.snapshot_of-requires-clause-values
snapshot_of-requires-clause-values c =
    let d = c.args.determined.now in
    within_long c.args.members.now c.args.parts.now.variables.items d.values.values.items
    (sym c.requires.determined.total.long)
    (inside c.args.parts.now c.requires.sound d.values.values.items d.known.items c.requires.determined
    c.args.new.now c.requires.new c.args.members.now c.requires.cone)

pub snapshot_of-requires-clause-known : goal.snapshot_of-requires-clause-known
snapshot_of-requires-clause-known c =
    let d = c.args.determined.now in
    within_long c.args.members.now c.args.parts.now.variables.items d.known.items (sym c.requires.determined.long)
    (inside c.args.parts.now c.requires.sound d.values.values.items d.known.items c.requires.determined
    c.args.new.now c.requires.new c.args.members.now c.requires.cone)

pub back-requires-clause-values : goal.back-requires-clause-values
back-requires-clause-values c =
    let d = c.args.determined.now in
    within_long c.args.members.now c.args.parts.now.variables.items c.go.new.determined.values.values.items
    (sym (c.go.ensures.values.long ∙ c.requires.determined.total.long))
    (inside c.args.parts.now c.requires.sound d.values.values.items d.known.items c.requires.determined
    c.args.new.now c.requires.new c.args.members.now c.requires.cone)

pub back-requires-clause-known : goal.back-requires-clause-known
back-requires-clause-known c =
    let d = c.args.determined.now in
    within_long c.args.members.now c.args.parts.now.variables.items c.go.new.determined.known.items
    (sym (c.go.ensures.known.long ∙ c.requires.determined.long))
    (inside c.args.parts.now c.requires.sound d.values.values.items d.known.items c.requires.determined
    c.args.new.now c.requires.new c.args.members.now c.requires.cone)

pub back-requires-in-Err-clause-values : goal.back-requires-in-Err-clause-values
back-requires-in-Err-clause-values c =
    let d = c.args.determined.now in
    within_long c.args.members.now c.args.parts.now.variables.items c.go.new.determined.values.values.items
    (sym (c.go.ensures.values.long ∙ c.requires.determined.total.long))
    (inside c.args.parts.now c.requires.sound d.values.values.items d.known.items c.requires.determined
    c.args.new.now c.requires.new c.args.members.now c.requires.cone)

pub back-requires-in-Err-clause-known : goal.back-requires-in-Err-clause-known
back-requires-in-Err-clause-known c =
    let d = c.args.determined.now in
    within_long c.args.members.now c.args.parts.now.variables.items c.go.new.determined.known.items
    (sym (c.go.ensures.known.long ∙ c.requires.determined.long))
    (inside c.args.parts.now c.requires.sound d.values.values.items d.known.items c.requires.determined
    c.args.new.now c.requires.new c.args.members.now c.requires.cone)
