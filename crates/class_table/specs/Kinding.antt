-- The kinds of types of the table.
use Rattle.std.specs.Prelude.{◌==◌, if◌then◌else◌, ℕ, List, [], ◌∷◌, Option, Some, None}
use Rattle.ar_base.specs.Numbers.{NameId}
use Rattle.class_table.specs.declared.tables.TypeBody.{TypeBody}
use Rattle.class_table.specs.declared.tables.TypeBody.TheVariants as types
use Rattle.class_table.specs.declared.types.Kind.{Kind}
use Rattle.class_table.specs.declared.types.Kind.TheVariants.{Domain, Class}

-- the kind of a type
abbrev pub kind_of_type_body : TypeBody → Kind
kind_of_type_body (types.Domain v) = Domain
kind_of_type_body (types.Class b) = Class b

-- the kind of the first of these types that has the name
abbrev pub kind_among : List (NameId × TypeBody) → ℕ → Option Kind
kind_among [] x = None
kind_among (t ∷ ts) x = if t.0.n == x then Some (kind_of_type_body t.1) else kind_among ts x
