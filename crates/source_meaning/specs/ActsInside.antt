-- Definitions beside those of Acts, of which clauses inside the program speak: what the whole program promises does not
-- rest on them.
use Rattle.std.specs.Prelude.{◌≡◌, List, [], ◌∷◌}
use Rattle.ar_syntax.specs.declared.paths.Path.{Path}
use Rattle.typed_expr.specs.declared.expr.Expr.{Expr, out-Expr}
use Rattle.typed_expr.specs.declared.expr.Expr.TheOpen.{Variable}
use Rattle.hierarchy.specs.Models.{RootedModel}
use Rattle.hierarchy.specs.Units.{UnitPath, Thing}
use Rattle.hierarchy.specs.Walks.{Finds, is_variable}
use Rattle.source_meaning.specs.Acts.{Conditions, Placed, sets}

-- the assignments are the two of `p :=: q`: the left variable gets the value of the right one, and the right one that
-- of the left
pub record AreTied (m : RootedModel) (u : UnitPath) (when : Conditions) (p q : Path) (ps : List Placed) : Type 0 where
  pub left : Thing
  pub right : Thing
  pub of_left : Expr Thing
  pub of_right : Expr Thing
  pub is_left : Finds m is_variable u p left
  pub is_right : Finds m is_variable u q right
  pub names_left : out-Expr Thing of_left ≡ Variable left
  pub names_right : out-Expr Thing of_right ≡ Variable right
  pub are : ps ≡ sets left when of_right p.at ∷ sets right when of_left q.at ∷ []
