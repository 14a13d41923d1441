-- The bodies of classes, looked up by name.
use Rattle.std.specs.Prelude.{◌≡◌, ◌==◌, if◌then◌else◌, ℕ, nat_eq, List, [], ◌∷◌, Option, Some, None, option_map}
use Rattle.std.specs.HashMap.{get, HashMap}
use Rattle.std.specs.declared.hash.FoldHasher.{FoldHasher}
use Rattle.std.specs.declared.hash.BuildHasherDefault.{BuildHasherDefault}
use Rattle.ar_base.specs.Numbers.{NameId, BodyId}
use Rattle.ar_syntax.specs.declared.members.TypeForm.{TypeForm}
use Rattle.ar_syntax.specs.declared.members.TypeForm.TheVariants as form
use Rattle.class_table.specs.Declaring.{Declared}
use Rattle.class_table.specs.Members.{class_named}
use Rattle.class_table.specs.declared.tables.TypeBody.{TypeBody}
use Rattle.class_table.specs.declared.tables.TypeBody.TheVariants as types

-- the bodies of classes by the numbers of their names; a domain has none
abbrev pub ClassBodies : Type 0
ClassBodies = HashMap ℕ (Option BodyId) (BuildHasherDefault FoldHasher)

-- the body of a class
abbrev pub class_by : TypeBody → Option BodyId
class_by (types.Domain v) = None
class_by (types.Class b) = Some b

-- what the first of these types that has the name is
abbrev pub class_in : List (NameId × TypeBody) → ℕ → Option (Option BodyId)
class_in [] x = None
class_in (t ∷ ts) x = if t.0.n == x then Some (class_by t.1) else class_in ts x

-- what is looked up for a name
abbrev pub class_at : ClassBodies → ℕ → Option (Option BodyId)
class_at classes x = get nat_eq classes x

-- the body that is looked up for a name, where it is there
abbrev pub flat : Option (Option BodyId) → Option BodyId
flat None = None
flat (Some b) = b

-- the body of the class of a type
abbrev pub instance_in : ClassBodies → TypeForm → Option BodyId
instance_in classes form.Boolean = None
instance_in classes form.Integer = None
instance_in classes (form.Named x) = flat (class_at classes x.n)

-- each name is looked up as it is declared
pub record AreClasses (d : Declared) (classes : ClassBodies) : Type 0 where
  pub each : (x : ℕ) → option_map (λ (b : BodyId). b.n) (flat (class_at classes x)) ≡ class_named d x
