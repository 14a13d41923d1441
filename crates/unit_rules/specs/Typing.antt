-- What the names of types stand for, as it is declared and as it is looked up.
use Rattle.std.specs.Prelude.{Bool, true, false, is_some}
use Rattle.ar_syntax.specs.declared.members.TypeForm.{TypeForm}
use Rattle.ar_syntax.specs.declared.members.TypeForm.TheVariants as form
use Rattle.class_table.specs.Declaring.{Declared}
use Rattle.class_table.specs.Members.{domain_named}

-- a declaration by this type declares variables
abbrev pub bounds_variables : Declared → TypeForm → Bool
bounds_variables d form.Boolean = true
bounds_variables d form.Integer = false
bounds_variables d (form.Named x) = is_some (domain_named d x.n)
