-- A model seen from its main block, and the table that keeps it.
use Rattle.std.specs.Prelude.{◌≡◌, ℕ, List, length, Option}
use Rattle.ar_base.specs.Lists.{Stands}
use Rattle.ar_syntax.specs.declared.items.Model.{Model}
use Rattle.class_table.specs.Declaring.{Declared, IsDeclared}
use Rattle.class_table.specs.Members.{Site, Members}
use Rattle.class_table.specs.Tables.{IsMain}

-- a model seen from its main block: what it declares, all members of each body, inherited ones first, the body of the
-- main block, and the texts of its names
pub record RootedModel : Type 0 where
  pub declared : Declared
  pub members : List (List Site)
  pub main : ℕ
  pub names : List (List ℕ)

-- the model is this one, seen from the main block that is asked for
pub record IsRootedIn (model : Model) (main : Option (List ℕ)) (m : RootedModel) : Type 0 where
  pub declared : IsDeclared model m.declared
  pub names : m.names ≡ model.names
  pub is_main : IsMain m.names m.declared main m.main
  pub bodies : length m.members ≡ length m.declared.bodies
  pub members : (b : ℕ) (sites : List Site) → Stands m.members b sites → Members m.declared b sites
