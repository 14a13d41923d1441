use Rattle.std.proofs.Common.{◌≡◌, take}
use Rattle.flow_changes.specs.Restoring.{restored}
use Rattle.flow_changes.proofs.restoring.put.Given as goal

abbrev pub invariant-loop-place : goal.invariant-loop-place
invariant-loop-place l = l.values.items
    ≡ restored l.parts l.initial.values.items (take l.place l.variables) (take l.place l.codes)
