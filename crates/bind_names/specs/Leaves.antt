-- What paths stand for in a unit, where the values of parameters are known.
use Rattle.std.specs.Prelude.{◌<◌, false, length, List, Option, Some, None}
use Rattle.ar_syntax.specs.declared.paths.Path.{Path}
use Rattle.domains.specs.declared.Value.{Value}
use Rattle.domains.specs.declared.Value.TheVariants as value
use Rattle.written_forms.specs.declared.naming.Leaf.{Leaf}
use Rattle.written_forms.specs.declared.naming.Leaf.TheVariants as leaf
use Rattle.bind_scopes.specs.Scopes.{HasScopes, named_in}
use Rattle.bind_scopes.specs.declared.scopes.Named.{Named}
use Rattle.bind_scopes.specs.declared.scopes.Named.TheVariants.{Variable, Parameter, Symbol}
use Rattle.bind_names.specs.declared.leaves.UnitLeaves.{UnitLeaves}
use Rattle.gts_core.specs.Readings.{valuation_at}

-- what stands for what was named; false for nothing
abbrev pub leaf_of : List Value → Option Named → Leaf
leaf_of values None = leaf.Constant (value.Truth false)
leaf_of values (Some (Variable v)) = leaf.Variable v
leaf_of values (Some (Parameter k)) = leaf.Constant (valuation_at values k)
leaf_of values (Some (Symbol k)) = leaf.Constant (value.Symbol k)

-- what a path stands for
abbrev pub leaf_in : UnitLeaves → Path → Leaf
leaf_in s p = leaf_of s.parameters.now (named_in s.scopes.now s.unit.n p)

-- the unit is one of the tree
pub record IsUnitInTree (s : UnitLeaves) : Type 0 where
  pub scopes : HasScopes s.scopes.now
  pub in_range : s.unit.n < length s.scopes.now.tree.now.units.items
