-- What the names of types stand for, as it is looked up.
use Rattle.std.specs.Prelude.{◌≡◌, ℕ, nat_eq, Option, Some, None}
use Rattle.std.specs.HashMap as hash
use Rattle.ar_base.specs.Numbers.{BodyId}
use Rattle.ar_syntax.specs.declared.items.DomainBody.{DomainBody}
use Rattle.class_table.specs.Declaring.{NamedType, DomainType, ClassType, Declared}
use Rattle.class_table.specs.Members.{type_named}
use Rattle.class_table.specs.declared.types.Kind.{Kind}
use Rattle.class_table.specs.declared.types.Kind.TheVariants.{Domain, Class}
use Rattle.class_table.specs.declared.types.TypeKinds.{TypeKinds}

-- the kind is that of the type, as far as there is one
pub data IsKindOf : Option Kind → Option NamedType → Type 0 where
  none : IsKindOf None None
  domain : {declared : DomainBody} → IsKindOf (Some Domain) (Some (DomainType declared))
  class : {id : BodyId} {b : ℕ} → id.n ≡ b → IsKindOf (Some (Class id)) (Some (ClassType b))

-- what is looked up for a name
abbrev pub kind_looked_up : TypeKinds → ℕ → Option Kind
kind_looked_up t x = hash.get nat_eq t.kinds x

-- each name is looked up as it is declared
pub record KnowsTypes (d : Declared) (t : TypeKinds) : Type 0 where
  pub each : (x : ℕ) → IsKindOf (kind_looked_up t x) (type_named d x)
