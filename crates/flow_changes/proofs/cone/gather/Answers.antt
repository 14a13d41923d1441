use Rattle.std.proofs.Common.{sym}
use Rattle.flow_changes.proofs.Begun.{new_inside, within_long}
use Rattle.flow_changes.specs.Known.{changing_numbers}
use Rattle.flow_changes.proofs.cone.gather.Goals as goal

pub see_new-requires-clause-within : goal.see_new-requires-clause-within
see_new-requires-clause-within c = within_long (changing_numbers c.args.new.now) c.args.parts.now.variables.items
    c.args.marks.now.items (sym c.requires.long) (new_inside c.args.parts.now c.args.new.now c.requires.new)
