-- Definitions beside those of Typing, of which clauses inside the program speak: what the whole program promises does
-- not rest on them.
use Rattle.std.specs.Prelude.{◌≡◌, ℕ, ◌+◌, ◌==◌, if◌then◌else◌, nat_eq, List, [], ◌∷◌, Option, Some, None, option_map}
use Rattle.std.specs.HashMap as hash
use Rattle.ar_base.specs.Numbers.{NameId}
use Rattle.class_table.specs.Declaring.{NamedType}
use Rattle.class_table.specs.TablesInside.{IsTypeOf}
use Rattle.class_table.specs.declared.tables.TypeBody.{TypeBody}
use Rattle.unit_rules.specs.declared.types.TypePlaces.{TypePlaces}

-- the place of the first of these types that has the name
abbrev pub type_place_in : List (NameId × TypeBody) → ℕ → Option ℕ
type_place_in [] x = None
type_place_in (t ∷ ts) x = if t.0.n == x then Some 0 else option_map (λ k. k + 1) (type_place_in ts x)

-- each name is looked up as it stands first among these types
pub record KnowsPlaces (types : List (NameId × TypeBody)) (t : TypePlaces) : Type 0 where
  pub each : (x : ℕ) → hash.get nat_eq t.places x ≡ type_place_in types x

-- what is found is the type that is declared, as far as there is one
pub data IsFound (symbols : List ℕ) : Option NamedType → Option TypeBody → Type 0 where
  none : IsFound symbols None None
  some : {t : NamedType} {b : TypeBody} → IsTypeOf symbols t b → IsFound symbols (Some t) (Some b)
