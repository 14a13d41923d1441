-- Definitions beside those of Models, of which clauses inside the program speak: what the whole program promises does
-- not rest on them.
use Rattle.std.specs.Prelude.{◌≡◌, ℕ, List, map, Option}
use Rattle.ar_base.specs.Breach.{AreKept}
use Rattle.ar_syntax.specs.declared.items.Model.{Model}
use Rattle.class_table.specs.Members.{Site}
use Rattle.class_table.specs.Rules.{BreaksTextRule, text_rules}
use Rattle.class_table.specs.TablesInside.{HoldsDeclared, site_of}
use Rattle.class_table.specs.declared.tables.Body.{Body}
use Rattle.class_table.specs.declared.tables.Classes.{Classes}
use Rattle.hierarchy.specs.Models.{RootedModel, IsRootedIn}

-- the members of a body, as the table keeps them
abbrev pub sites_kept : Body → List Site
sites_kept b = map site_of b.all.items

-- the table keeps the model as it is seen from its main block
pub record IsRootedTable (m : RootedModel) (c : Classes) : Type 0 where
  pub holds : HoldsDeclared m.declared c
  pub names : c.names ≡ m.names
  pub main : c.main.n ≡ m.main
  pub members : map sites_kept c.bodies.items ≡ m.members

-- the model keeps the rules L1 to L5
pub record KeepsTextRules (m : RootedModel) : Type 0 where
  pub model : Model
  pub main : Option (List ℕ)
  pub rooted : IsRootedIn model main m
  pub kept : AreKept text_rules (BreaksTextRule model main m.declared)

-- the table is that of a model that keeps the rules L1 to L5
pub record IsKeptTable (m : RootedModel) (c : Classes) : Type 0 where
  pub table : IsRootedTable m c
  pub kept : KeepsTextRules m
