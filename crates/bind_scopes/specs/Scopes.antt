-- What a path names where it stands, and what an expression may name.
use Rattle.std.specs.Prelude.{◌≡◌, ℕ, ◌&&◌, nat_lt, nat_eq, if◌then◌else◌, Bool, false, List, [], ◌∷◌, Option, Some, None, slice_get, option_map, option_and_then, is_some}
use Rattle.std.specs.HashMap as hash
use Rattle.std.specs.HashSet as bag
use Rattle.ar_base.specs.Lists.{Stands}
use Rattle.ar_base.specs.Numbers.{VarId}
use Rattle.ar_syntax.specs.declared.paths.Path.{Path}
use Rattle.ar_syntax.specs.declared.paths.PathStart.{PathStart}
use Rattle.ar_syntax.specs.declared.paths.PathStart.TheVariants.{Here}
use Rattle.hierarchy.specs.Models.{RootedModel}
use Rattle.hierarchy.specs.Units.{UnitPath, Thing, body_of, names_at, numbers}
use Rattle.hierarchy.specs.UnitsInside.{names_in}
use Rattle.hierarchy.specs.Walks.{Finds, thing, is_variable}
use Rattle.hierarchy.specs.Listing.{variables, parameters}
use Rattle.hierarchy.specs.Tie.{IsTreeOf}
use Rattle.hierarchy.specs.declared.tree.ParNode.{ParNode}
use Rattle.hierarchy.specs.declared.tree.UnitNode.{UnitNode}
use Rattle.hierarchy.specs.declared.tree.Tree.{Tree}
use Rattle.source_meaning.specs.Means.{is_valued, IsSymbol}
use Rattle.source_meaning.specs.Tested as s
use Rattle.unit_rules.specs.TypingInside.{KnowsPlaces}
use Rattle.bind_scopes.specs.Indexed.{is_same_index, IsIndexOf}
use Rattle.bind_scopes.specs.Members.{HasName, NamesSo}
use Rattle.bind_scopes.specs.Searching.{variable_in, parameter_in}
use Rattle.bind_scopes.specs.Sites.{owned_in, is_read}
use Rattle.bind_scopes.specs.declared.scopes.Named.{Named}
use Rattle.bind_scopes.specs.declared.scopes.Named.TheVariants.{Variable, Parameter, Symbol}
use Rattle.bind_scopes.specs.declared.scopes.Scope.{Scope}
use Rattle.bind_scopes.specs.declared.scopes.Scope.TheVariants.{Everything, Constants, Before}
use Rattle.bind_scopes.specs.declared.scopes.Scopes.{Scopes}

-- The table

-- the table is that of the tree of the model: it numbers the symbols, has the names of the members of all units, knows
-- the types and has the tree's index
pub record AreScopes (m : RootedModel) (units : List UnitPath) (s : Scopes) : Type 0 where
  pub is_tree : IsTreeOf m units s.tree.now
  pub symbols : (x k : ℕ) → hash.get nat_eq s.symbols x ≡ Some k → Stands m.declared.symbols k x
  pub no_symbols : (x k : ℕ) → hash.get nat_eq s.symbols x ≡ None → Stands m.declared.symbols k x → ⊥
  pub names : (n : ℕ) (u : UnitPath) (x : ℕ) → Stands units n u → NamesSo (names_at m u) x
      → HasName s.members (body_of m u) x
  pub only_names : (b x : ℕ) → HasName s.members b x → NamesSo (names_in m b) x
  pub types : KnowsPlaces s.tree.now.classes.types.items s.types
  pub index : IsIndexOf s.tree.now s.index

-- the table is that of the tree of some model
pub record HasScopes (s : Scopes) : Type 0 where
  pub model : RootedModel
  pub units : List UnitPath
  pub are : AreScopes model units s

-- What a path names

-- the path, read in the unit u, names this, where every variable, parameter and symbol may be named
pub data IsNamedIn (m : RootedModel) (units : List UnitPath) (u : UnitPath) (p : Path) : Option Named → Type 0 where
  variable : {v : VarId} (t : Thing) → Finds m is_variable u p t → Stands (variables m units) v.n t
      → IsNamedIn m units u p (Some (Variable v))
  parameter : {k : ℕ} (t : Thing) → Finds m is_valued u p t → Stands (parameters m units) k t
      → IsNamedIn m units u p (Some (Parameter k))
  symbol : {k : ℕ} → IsSymbol m u p k → IsNamedIn m units u p (Some (Symbol k))
  nothing : (s.MayName m u s.Everything p → ⊥) → IsNamedIn m units u p None

-- the number of the symbol, where the unit has no member of the name
abbrev pub symbol_in : Scopes → Option UnitNode → ℕ → Option ℕ
symbol_in s None x = None
symbol_in s (Some d) x = if bag.contains is_same_index s.members (d.body.n, x) then None else hash.get nat_eq s.symbols x

-- the name of a path that is one name, read in the unit itself
abbrev pub name_in : PathStart → List ℕ → Option ℕ
name_in Here (x ∷ []) = Some x
name_in _ _ = None

-- the same of a path, which names a symbol where it is one name alone
abbrev pub symbol_by : Scopes → Option UnitNode → PathStart → List ℕ → Option ℕ
symbol_by s d start names = option_and_then (symbol_in s d) (name_in start names)

-- the parameter at this place has a value that is read
abbrev pub is_read_in : Tree → ℕ → Bool
is_read_in t k = is_read_node t (slice_get t.parameters.items k)
  where
    is_read_node : Tree → Option ParNode → Bool
    is_read_node t None = false
    is_read_node t (Some d) = is_read (owned_in t.classes d.node.source)

-- the first of these that there is; a parameter must have a value that is read
abbrev pub first_named : Tree → Option ℕ → Option ℕ → Option ℕ → Option Named
first_named t (Some v) k n = Some (Variable (record { n = v; of = record {} }))
first_named t None (Some k) n = if is_read_in t k then Some (Parameter k) else None
first_named t None None n = option_map (λ k. Symbol k) n

-- what a path names in unit n
abbrev pub named_in : Scopes → ℕ → Path → Option Named
named_in s n p = first_named s.tree.now (variable_in s.tree.now n p) (parameter_in s.tree.now n p)
    (symbol_by s (slice_get s.tree.now.units.items n) p.start (numbers p.names.items))

-- Scopes

-- the scope is this one in the unit u: before a parameter of the unit come those of lesser numbers
pub data IsScope (m : RootedModel) (units : List UnitPath) (u : UnitPath) : Scope → s.Scope → Type 0 where
  everything : IsScope m units u Everything s.Everything
  constants : IsScope m units u Constants s.Constants
  before : {k : ℕ} (y : ℕ) → Stands (parameters m units) k (thing u y) → IsScope m units u (Before k) (s.Before y)

-- the path is one name
abbrev pub is_one_name : PathStart → List ℕ → Bool
is_one_name start names = is_some (name_in start names)

-- what may be named of what a path names
abbrev pub allowed : Scope → Bool → Option Named → Option Named
allowed Everything single named = named
allowed scope single None = None
allowed scope single (Some (Symbol k)) = Some (Symbol k)
allowed scope single (Some (Variable v)) = None
allowed Constants single (Some (Parameter k)) = if single then Some (Parameter k) else None
allowed (Before j) single (Some (Parameter k)) = if single && nat_lt k j then Some (Parameter k) else None

-- what a path in an expression of the scope names in unit n
abbrev pub scoped_in : Scopes → ℕ → Scope → Path → Option Named
scoped_in s n scope p = allowed scope (is_one_name p.start (numbers p.names.items)) (named_in s n p)
