-- The table of a model: what it declares, as the code keeps it, with its main block and all members of each body.
use Rattle.std.specs.Prelude.{◌≡◌, ℕ, ℤ, Vec, List, [], ◌∷◌, ◌++◌, Option, Some, None}
use Rattle.std.specs.Global.{Global}
use Rattle.ar_base.specs.Lists.{Stands, IsOneOf, Along}
use Rattle.ar_base.specs.Numbers.{NameId}
use Rattle.ar_base.specs.declared.places.Place.{Place}
use Rattle.ar_syntax.specs.declared.items.DomainBody.{DomainBody}
use Rattle.ar_syntax.specs.declared.items.DomainBody.TheVariants as body
use Rattle.domains.specs.declared.Domain.{Domain}
use Rattle.domains.specs.declared.Domain.TheVariants as values
use Rattle.class_table.specs.Declaring.{TextBody, Declared}

-- the domain that is declared so, where symbols are numbered by their places among these
pub data IsDomainOf (symbols : List ℕ) : DomainBody → Domain → Type 0 where
  symbols : {names : Vec (NameId × Place) Global} {numbers : Vec ℕ Global}
      → Along (λ (n : NameId × Place) (k : ℕ). Stands symbols k n.0.n) names.items numbers.items
      → IsDomainOf symbols (body.Symbols names) (values.Symbols numbers)
  range : {low high : ℤ} → IsDomainOf symbols (body.Range low high) (values.Range low high)

-- the main block is the top-level block of the name that is asked for, else the last one
pub data IsMain (names : List (List ℕ)) (d : Declared) : Option (List ℕ) → ℕ → Type 0 where
  named : {text : List ℕ} {b : ℕ} (block : TextBody) → IsOneOf d.blocks b → Stands d.bodies b block
      → Stands names block.name.n text → IsMain names d (Some text) b
  last : {b : ℕ} (front : List ℕ) → d.blocks ≡ front ++ b ∷ [] → IsMain names d None b
