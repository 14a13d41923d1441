use Rattle.std.proofs.Common.{◌≡◌, ◌++◌, map, take}
use Rattle.class_table.specs.Members.{sites_from}
use Rattle.class_table.specs.TablesInside.{site_of}
use Rattle.class_table.proofs.members.add_own.Given as goal

abbrev pub invariant-loop-place : goal.invariant-loop-place
invariant-loop-place l = map site_of l.all.items
    ≡ map site_of l.initial.all.items ++ sites_from l.body.n 0 (take l.place l.own)
