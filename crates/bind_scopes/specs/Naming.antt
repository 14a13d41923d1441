-- The kinds and sorts of what paths name in a unit.
use Rattle.std.specs.Prelude.{◌<◌, Bool, not, length, Option, Some, None, slice_get, option_map, option_and_then}
use Rattle.ar_syntax.specs.declared.paths.Path.{Path}
use Rattle.domains.specs.declared.Domain.{Domain}
use Rattle.typed_expr.specs.declared.expr.ValueKind.{ValueKind}
use Rattle.typed_expr.specs.declared.expr.ValueKind.TheVariants as kind
use Rattle.gts_core.specs.Sound.{kind_of_domain}
use Rattle.hierarchy.specs.declared.tree.ParNode.{ParNode}
use Rattle.hierarchy.specs.declared.tree.VarNode.{VarNode}
use Rattle.hierarchy.specs.declared.tree.Tree.{Tree}
use Rattle.bind_scopes.specs.Searching.{variable_in}
use Rattle.bind_scopes.specs.Sites.{owned_in, declares_flows}
use Rattle.bind_scopes.specs.Scopes.{HasScopes, scoped_in}
use Rattle.bind_scopes.specs.declared.scopes.Named.{Named}
use Rattle.bind_scopes.specs.declared.scopes.Named.TheVariants.{Variable, Parameter, Symbol}
use Rattle.bind_scopes.specs.declared.naming.Sort.{Sort}
use Rattle.bind_scopes.specs.declared.naming.Sort.TheVariants.{States, Flows}
use Rattle.bind_scopes.specs.declared.naming.UnitNames.{UnitNames}

-- the kind of a parameter with a value; without a domain it takes every whole number
abbrev pub kind_of_parameter : Option Domain → ValueKind
kind_of_parameter None = kind.Whole
kind_of_parameter (Some d) = kind_of_domain d

-- the kind of what was named
abbrev pub kind_named : Tree → Named → Option ValueKind
kind_named t (Variable v) = option_map (λ (d : VarNode). kind_of_domain d.domain) (slice_get t.variables.items v.n)
kind_named t (Parameter k) = option_map (λ (d : ParNode). kind_of_parameter d.domain) (slice_get t.parameters.items k)
kind_named t (Symbol k) = Some kind.Symbol

-- whether the variable is a state variable; among flows, whether it is no flow
abbrev pub sort_of : Tree → Sort → VarNode → Bool
sort_of t States d = d.is_state
sort_of t Flows d = not (declares_flows (owned_in t.classes d.node.source))

-- the names are those of a unit of a tree
pub record IsInTree (s : UnitNames) : Type 0 where
  pub scopes : HasScopes s.scopes.now
  pub in_range : s.unit.n < length s.scopes.now.tree.now.units.items

-- the kind of what a path names
abbrev pub kind_in : UnitNames → Path → Option ValueKind
kind_in s p = option_and_then (kind_named s.scopes.now.tree.now) (scoped_in s.scopes.now s.unit.n s.scope p)

-- the sort of the variable that a path names
abbrev pub sort_in : UnitNames → Path → Option Bool
sort_in s p = option_and_then (λ n. option_map (sort_of s.scopes.now.tree.now s.sort)
    (slice_get s.scopes.now.tree.now.variables.items n))
    (variable_in s.scopes.now.tree.now s.unit.n p)
