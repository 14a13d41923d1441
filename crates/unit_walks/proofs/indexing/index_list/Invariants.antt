use Rattle.std.proofs.Common.{◌≡◌, List, Vec}
use Rattle.std.specs.Global.{Global}
use Rattle.ar_base.specs.Lists.{Stands}
use Rattle.unit_walks.specs.Forms.{AreIndexed}
use Rattle.unit_walks.specs.declared.forms.UnitName.{UnitName}
use Rattle.unit_walks.proofs.indexing.index_list.Given as goal

abbrev pub invariant-loop-place : goal.invariant-loop-place
invariant-loop-place l = (lists : List (Vec UnitName Global)) (v : Vec UnitName Global) → Stands lists l.body v
    → v.items ≡ l.list → AreIndexed lists l.body 0 l.initial.places → AreIndexed lists l.body l.place l.places
