-- Typed expressions and sound instructions over the variables and symbols of a tree.
use Rattle.std.specs.Prelude.{◌≡◌, ◌<◌, Bool, length, Option, Some, None, slice_get, Box, Vec}
use Rattle.std.specs.Global.{Global}
use Rattle.ar_base.specs.Lists.{Stands, IsOneOf}
use Rattle.ar_base.specs.Numbers.{VarId}
use Rattle.ar_base.specs.declared.places.Place.{Place}
use Rattle.domains.specs.declared.Value.{Value}
use Rattle.domains.specs.declared.Value.TheVariants as value
use Rattle.typed_expr.specs.Kinds.{HasKind}
use Rattle.typed_expr.specs.Mentions.{Mentions}
use Rattle.typed_expr.specs.Possible.{IsSubexpression}
use Rattle.typed_expr.specs.declared.expr.Expr.{Expr, out-Expr}
use Rattle.typed_expr.specs.declared.expr.Expr.TheOpen.{Constant}
use Rattle.typed_expr.specs.declared.expr.ValueKind.{ValueKind}
use Rattle.typed_expr.specs.declared.expr.ValueKind.TheVariants as kind
use Rattle.gts_core.specs.Sound.{kind_of_domain}
use Rattle.gts_core.specs.declared.bound.Act.{Act, out-Act}
use Rattle.gts_core.specs.declared.bound.Act.TheOpen.{Act-F}
use Rattle.gts_core.specs.declared.bound.Act.TheOpen as act
use Rattle.hierarchy.specs.declared.tree.Tree.{Tree}
use Rattle.hierarchy.specs.declared.tree.VarNode.{VarNode}

-- the kind of a variable that was looked up; a number that stands for none counts as a truth value
abbrev pub kind_of_node : Option VarNode → ValueKind
kind_of_node (Some d) = kind_of_domain d.domain
kind_of_node None = kind.Truth

-- the kind of the variable of this number
abbrev pub kind_of_number : Tree → VarId → ValueKind
kind_of_number t x = kind_of_node (slice_get t.variables.items x.n)

-- the value is no symbol, or one that the model has
abbrev pub IsSymbolIn : Tree → Value → Type 0
IsSymbolIn t (value.Truth b) = Unit {0}
IsSymbolIn t (value.Whole n) = Unit {0}
IsSymbolIn t (value.Symbol k) = k < length t.classes.symbols.items

-- the expression has the kind, its variables are those of the tree, and its symbols those of the model
pub record IsTypedIn (t : Tree) (e : Expr VarId) (k : ValueKind) : Type 0 where
  pub typed : HasKind (kind_of_number t) (out-Expr VarId e) k
  pub variables : (x : VarId) → Mentions x (out-Expr VarId e) → x.n < length t.variables.items
  pub symbols : (v : Value) → IsSubexpression (Constant v) (out-Expr VarId e) → IsSymbolIn t v

-- the instruction assigns state variables, or flows, values of their kinds, under tests that are truth values
pub data IsSoundIn (t : Tree) (to_state : Bool) : Act-F Act → Type 0 where
  skip : IsSoundIn t to_state act.Skip
  set : {x : VarId} {e : Expr VarId} {at : Place} (d : VarNode) → Stands t.variables.items x.n d → d.is_state ≡ to_state
      → IsTypedIn t e (kind_of_domain d.domain) → IsSoundIn t to_state (act.Set x e at)
  conditional : {test : Expr VarId} {first second : Box Act Global} → IsTypedIn t test kind.Truth
      → IsSoundIn t to_state (out-Act first.value) → IsSoundIn t to_state (out-Act second.value)
      → IsSoundIn t to_state (act.If test first second)
  all : {acts : Vec Act Global} → ((a : Act) → IsOneOf acts.items a → IsSoundIn t to_state (out-Act a))
      → IsSoundIn t to_state (act.All acts)
