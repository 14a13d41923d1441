use Rattle.std.proofs.Common.{◌≡◌, ℕ, ◌<◌, None}
use Rattle.ar_base.specs.Lists.{Stands}
use Rattle.class_table.specs.Members.{extended}
use Rattle.class_table.specs.declared.tables.Owned.{Owned}
use Rattle.class_table.proofs.naming.count_first.Given as goal

abbrev pub invariant-loop-owned : goal.invariant-loop-owned
invariant-loop-owned l = (k : ℕ) (p : Owned) → k < l.owned-index → Stands l.own k p → extended p ≡ None
