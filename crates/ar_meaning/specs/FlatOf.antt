-- A flat system of a system: each number stands for the variable at its place of a list.
use Rattle.std.specs.Prelude.{ℕ, List}
use Rattle.ar_base.specs.Lists.{Stands, AreDifferent, Along}
use Rattle.ar_meaning.specs.Systems.{System}
use Rattle.ar_meaning.specs.Image.{Assign_renames, Variable_renames, Event_renames, Expr_renames}

-- the number that stands for the thing
abbrev pub IsNumber : {A : Type 0} → List A → A → ℕ → Type 0
IsNumber things x n = Stands things n x

-- the lists of the system and of the flat one agree item by item, with each thing's number in its place
pub record IsFlatOf {V : Type 0} (things : List V) (sys : System V) (flat : System ℕ) : Type 0 where
  pub different : AreDifferent things
  pub variables : Along (Variable_renames (IsNumber things)) sys.net.variables flat.net.variables
  pub assertions : Along (Assign_renames (IsNumber things)) sys.net.assertions flat.net.assertions
  pub events : Along (Event_renames (IsNumber things)) sys.events flat.events
  pub observers : Along (Expr_renames (IsNumber things)) sys.observers flat.observers
