use Rattle.flow_changes.proofs.Follows.{inside}
use Rattle.flow_changes.proofs.trying.go.Goals as goal

pub changes_at-requires-clause-within : goal.changes_at-requires-clause-within
changes_at-requires-clause-within c =
    inside c.args.parts.now c.requires.sound c.args.determined.now.values.values.items c.args.determined.now.known.items
    c.requires.determined c.args.new.now c.requires.new c.args.members.now c.requires.cone
