-- What every system keeps that sound parts stand for, in the words of systems.
use Rattle.std.specs.Prelude.{◌≡◌, ℕ, ◌<◌, Bool, Contains, length, slice_get}
use Rattle.ar_base.specs.Lists.{IsOneOf}
use Rattle.domains.specs.declared.Value.{Value}
use Rattle.typed_expr.specs.Kinds.{kind_of, HasKind}
use Rattle.typed_expr.specs.declared.expr.Expr.{Expr, out-Expr}
use Rattle.typed_expr.specs.declared.expr.ValueKind.{ValueKind}
use Rattle.typed_expr.specs.declared.expr.ValueKind.TheVariants as kind
use Rattle.ar_meaning.specs.Systems.{Assign, Variable, Net}
use Rattle.ar_meaning.specs.Facts.{Allows}
use Rattle.ar_meaning.specs.FactsInside.{AreNumberedVariables}
use Rattle.ar_meaning.specs.Dependence.{IsFlow, Names}
use Rattle.gts_core.specs.Sound.{kind_of_found}
use Rattle.gts_core.specs.declared.system.GtsParts.{GtsParts}

-- the kind of the variable of this number; a number that stands for none counts as a truth value
abbrev pub kind_by_number : GtsParts → ℕ → ValueKind
kind_by_number p n = kind_of_found (slice_get p.variables.items n)

-- an assignment of a value of its target's kind, under conditions that are truth values
pub record IsTypedAssign (kinds : ℕ → ValueKind) (a : Assign ℕ) : Type 0 where
  pub value : HasKind kinds (out-Expr ℕ a.value) (kinds a.target)
  pub conditions : (c : Expr ℕ × Bool) → IsOneOf a.conditions c → HasKind kinds (out-Expr ℕ c.0) kind.Truth

-- variables stand for their numbers, and expressions name numbers that stand for one; init and reset values are in
-- their
-- domains, whose values have the variable's kind; assertions are typed, and their targets are flows
pub record IsLawful (net : Net ℕ) (kinds : ℕ → ValueKind) : Type 0 where
  pub numbered : AreNumberedVariables net
  pub begins : (x : Variable ℕ) → IsOneOf net.variables x → Contains x.domain x.value
  pub of_kind : (n : ℕ) (v : Value) → Allows net n v → kind_of v ≡ kinds n
  pub typed : (a : Assign ℕ) → IsOneOf net.assertions a → IsTypedAssign kinds a
  pub targets : (a : Assign ℕ) → IsOneOf net.assertions a → (k : ℕ) × IsFlow net k a.target
  pub inside : (a : Assign ℕ) (n : ℕ) → IsOneOf net.assertions a → Names a n → n < length net.variables
