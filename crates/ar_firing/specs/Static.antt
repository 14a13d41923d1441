-- Static systems: what the laws of firing orders use of the rules of the static fragment.
use Rattle.std.specs.Prelude.{◌≡◌, ℕ, Bool, true, List}
use Rattle.ar_base.specs.Lists.{Stands}
use Rattle.domains.specs.declared.Value.{Value}
use Rattle.typed_expr.specs.Yields.{Level}
use Rattle.typed_expr.specs.Mentions.{Mentions}
use Rattle.typed_expr.specs.declared.expr.Expr.{Expr, out-Expr}
use Rattle.ar_meaning.specs.Systems.{Assign, Variable, Transition, Way, Leaf, System}
use Rattle.ar_meaning.specs.FactsInside.{AreKeyed}
use Rattle.ar_meaning.specs.Runs.{Label}
use Rattle.ar_firing.specs.Fragment.{IsOpen, IsModeOf, Edge}
use Rattle.ar_firing.specs.Rules.{IsLiveAt, KeepsS5, KeepsS6}

-- the expression names no variable but x
pub record Only {V : Type 0} (x : V) (e : Level V) : Type 0 where
  pub only : (y : V) → Mentions y e → y ≡ x

-- the assignment's target, conditions and expression name x alone
pub record ActsOn {V : Type 0} (x : V) (a : Assign V) : Type 0 where
  pub target : a.target ≡ x
  pub conditions : (n : ℕ) (e : Expr V) (b : Bool) → Stands a.conditions n (e, b) → Only x (out-Expr V e)
  pub value : Only x (out-Expr V a.value)

-- a transition that reads and writes x alone
pub data ReadsItselfAlone {V : Type 0} (x : V) : Way V → Type 0 where
  transition : {d : Transition V} → Only x (out-Expr V d.guard)
      → ((n : ℕ) (a : Assign V) → Stands d.action n a → ActsOn x a) → ReadsItselfAlone x (Leaf d)

-- an edge of this way from this mode
pub record LeadsByWay {V : Type 0} (sys : System V) (dropped : List ℕ) (l : Label) (n : ℕ) (from : Value) : Type 0 where
  pub to : Value
  pub edge : Edge sys dropped l n from to

-- the way's mode variable is a state variable, and the way reads and writes it alone
pub record HasMode {V : Type 0} (sys : System V) (unit : ℕ) (w : Way V) : Type 0 where
  pub number : ℕ
  pub variable : Variable V
  pub stands : Stands sys.net.variables number variable
  pub is_state : variable.is_state ≡ true
  pub is_mode : IsModeOf sys unit w number
  pub alone : ReadsItselfAlone variable.key w

-- each open way reads and writes its mode variable alone, and is an edge wherever it can fire at a mode that is
-- reached; the fifth and the sixth rule are kept
pub record IsStatic {V : Type 0} (sys : System V) (dropped : List ℕ) : Type 0 where
  pub modes : (l : Label) (w : Way V) (o : IsOpen sys dropped l w) → HasMode sys o.is_kept.is_way.event.unit w
  pub leads : (l : Label) (w : Way V) (n : ℕ) (x : Variable V) (m : Value) → IsLiveAt sys dropped l w n x m
      → LeadsByWay sys dropped l n m
  pub one_edge : KeepsS5 sys dropped
  pub enters_once : KeepsS6 sys dropped

-- no two variables have one key, and the system is static
pub record IsKeyedStatic {V : Type 0} (sys : System V) (dropped : List ℕ) : Type 0 where
  pub keyed : AreKeyed sys.net
  pub static : IsStatic sys dropped
