-- The typed numbers by their short names, and the numbers of lists of them.
use Rattle.ar_base.specs.declared.numbers.Id.{Id}
use Rattle.ar_base.specs.declared.numbers.VarKind.{VarKind}
use Rattle.ar_base.specs.declared.numbers.WayKind.{WayKind}
use Rattle.ar_base.specs.declared.numbers.BodyKind.{BodyKind}
use Rattle.ar_base.specs.declared.numbers.NameKind.{NameKind}

-- the number of a variable
abbrev pub VarId : Type 0
VarId = Id VarKind

-- the number of a way
abbrev pub WayId : Type 0
WayId = Id WayKind

-- the number of a body
abbrev pub BodyId : Type 0
BodyId = Id BodyKind

-- the number of a name
abbrev pub NameId : Type 0
NameId = Id NameKind
