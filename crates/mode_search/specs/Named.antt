-- The variables that assignments name.
use Rattle.std.specs.Prelude.{◌≡◌, ◌⊎◌, List}
use Rattle.ar_base.specs.Numbers.{VarId}
use Rattle.gts_core.specs.Named.{ReadsVariable}
use Rattle.gts_core.specs.declared.system.Assign.{Assign}
use Rattle.mode_search.specs.Adding.{SomeHas}

-- the variable is the assignment's target, or stands in its value or in a condition
abbrev pub AssignNamesVariable : Assign → VarId → Type 0
AssignNamesVariable a x = (x ≡ a.target) ⊎ ReadsVariable a x

-- one of the assignments names the variable
abbrev pub OneNames : List Assign → VarId → Type 0
OneNames action x = SomeHas AssignNamesVariable action x
