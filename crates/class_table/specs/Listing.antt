-- The listing of members, body by body.
use Rattle.std.specs.Prelude.{◌≡◌, ◌<◌, ℕ, List, [], ◌∷◌, ◌++◌, length, map, Some}
use Rattle.ar_base.specs.Lists.{Stands, IsOneOf, Along}
use Rattle.class_table.specs.Declaring.{Declared}
use Rattle.class_table.specs.Kinds.{KnowsTypes}
use Rattle.class_table.specs.Members.{Site, own_at, extended, class_named, Members, Inherits}
use Rattle.class_table.specs.Ordering.{IsComplete}
use Rattle.class_table.specs.TablesInside.{IsBodyOf, site_of}
use Rattle.class_table.specs.declared.tables.Body.{Body}
use Rattle.class_table.specs.declared.tables.Owned.{Owned}
use Rattle.class_table.specs.declared.types.TypeKinds.{TypeKinds}

-- the bodies that are done have all their members listed
pub record HaveMembersListed (d : Declared) (bodies : List Body) (done : List ℕ) : Type 0 where
  pub as_text : Along IsBodyOf bodies d.bodies
  pub there : (b : ℕ) → IsOneOf done b → b < length bodies
  pub members : (b : ℕ) (body : Body) → IsOneOf done b → Stands bodies b body
      → Members d b (map site_of body.all.items)

-- the names of types are as declared, and the bodies that are done are listed
pub record ListsDone (d : Declared) (done : List ℕ) (bodies : List Body) (types : TypeKinds) : Type 0 where
  pub known : KnowsTypes d types
  pub listed : HaveMembersListed d bodies done

-- the class of the name is one of the bodies that are done
pub record IsDone (d : Declared) (done : List ℕ) (name : ℕ) : Type 0 where
  pub class : ℕ
  pub is_named : class_named d name ≡ Some class
  pub is_done : IsOneOf done class

-- so is each class that one of these members extends
pub record AreDone (d : Declared) (done : List ℕ) (own : List Owned) : Type 0 where
  pub each : (o : Owned) (x : ℕ) → IsOneOf own o → extended o ≡ Some x → IsDone d done x

-- the order has each body after all bodies inside it, and each name that is extended is one of a class
pub record CanList (d : Declared) (order : List ℕ) : Type 0 where
  pub complete : IsComplete d order
  pub classes : (a : ℕ) (o : Owned) (x : ℕ) → IsOneOf (own_at d a) o → extended o ≡ Some x
      → (b : ℕ) × (class_named d x ≡ Some b)

-- these are the members of the class of the name
pub record IsOfClass (d : Declared) (name : ℕ) (sites : List Site) : Type 0 where
  pub class : ℕ
  pub is_named : class_named d name ≡ Some class
  pub are_members : Members d class sites

-- the members of the class of the name were added
pub record AddsClass (d : Declared) (name : ℕ) (old new : List Site) : Type 0 where
  pub sites : List Site
  pub of_class : IsOfClass d name sites
  pub joined : new ≡ old ++ sites

-- what the member brings of the class that it extends was added
pub record InheritsMore (d : Declared) (o : Owned) (old new : List Site) : Type 0 where
  pub sites : List Site
  pub brings : Inherits d (o ∷ []) sites
  pub joined : new ≡ old ++ sites
