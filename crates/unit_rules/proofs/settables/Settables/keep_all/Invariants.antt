use Rattle.std.proofs.Common.{Some, take}
use Rattle.unit_rules.specs.Settables.{AddsSettables}
use Rattle.unit_rules.proofs.Entries.{same_entries}
use Rattle.unit_rules.proofs.settables.Settables.keep_all.Given as goal

-- the entries of the names up to here were added
abbrev pub invariant-loop-name : goal.invariant-loop-name
invariant-loop-name l = AddsSettables l.body.n (same_entries (Some l.settable) (take l.name-index l.names)) l.fn.self l.self
