use Rattle.std.proofs.Common.{take, Some}
use Rattle.class_table.specs.Members.{Site, MemberKind, all_named}
use Rattle.bind_scopes.specs.Members.{AddsMemberNames}
use Rattle.bind_scopes.proofs.members.add_all.Given as goal

abbrev pub invariant-loop-name : goal.invariant-loop-name
invariant-loop-name l = (s : Site) (kind : MemberKind)
    → AddsMemberNames l.body.n (all_named s (Some kind) (take l.name-index l.list)) l.initial.names l.names
