-- The laws that carry what is drawn for a table to the system.
use Rattle.std.specs.Prelude.{◌≡◌, ℕ, true, List, Option, None}
use Rattle.domains.specs.declared.Value.{Value}
use Rattle.typed_expr.specs.Kinds.{HasKind}
use Rattle.typed_expr.specs.declared.expr.Expr.{Expr, out-Expr}
use Rattle.typed_expr.specs.declared.expr.ValueKind.{ValueKind}
use Rattle.ar_meaning.specs.Systems.{System}
use Rattle.ar_firing.specs.Forest.{ModeTree, IsForest}
use Rattle.ar_firing.specs.Static.{IsKeyedStatic}
use Rattle.gts_core.specs.Lawful.{IsLawful}
use Rattle.mode_trees.specs.Views.{trees_of}
use Rattle.mode_trees.specs.declared.forests.Forest.{Forest}
use Rattle.zdd_nodes.specs.Families.{has}
use Rattle.zdd_nodes.specs.Nodes.{IsFamilyNumber}
use Rattle.eq_core.specs.Gates.{Table}
use Rattle.firable_families.specs.FirableInside.{IsFirableOf}
use Rattle.gate_diagrams.specs.Answers.{IsAnswerUpTo}
use Rattle.gate_diagrams.specs.NodeLimits.{NodesMayUpTo}
use Rattle.gate_diagrams.specs.declared.answer.Drawn.{Drawn}
use Rattle.eq_build.specs.Table.{IsTable}
use Rattle.table_laws.specs.Drawn.{AreDrawnUpTo, sets_of, family_of}

-- what is drawn for the table of a lawful static system by the trees of its forest, whatever the numbers of their ways,
-- is what its firing orders mean: of the sets of at most as many events as are asked for the conflict sets, where there are
-- some, or else the cuts
abbrev pub DrawnAreMeantUpTo : Option ℕ → Type 0
DrawnAreMeantUpTo order = (sys : System ℕ) (dropped : List ℕ) (kinds : ℕ → ValueKind) (kind : ValueKind) (number : ℕ → ℕ)
    (forest : Forest) (observer : Expr ℕ) (wanted : Value) (table : Table) (drawn : Drawn) → IsLawful sys.net kinds
    → IsKeyedStatic sys dropped → IsForest sys dropped (trees_of number forest)
    → HasKind kinds (out-Expr ℕ observer) kind → IsTable sys.net (trees_of number forest) observer wanted table
    → IsAnswerUpTo order (trees_of (λ n. n) forest) table drawn → AreDrawnUpTo order sys dropped observer wanted drawn

-- each drawn set is firable in the trees, and what is drawn has a number of its store
abbrev pub DrawnAreFirableUpTo : Option ℕ → Type 0
DrawnAreFirableUpTo order = (trees : List ModeTree) (table : Table) (drawn : Drawn) → IsAnswerUpTo order trees table drawn
    → ((s : List ℕ) → has (sets_of (family_of drawn)) s ≡ true → IsFirableOf trees s)

abbrev pub DrawnAreStoredUpTo : Option ℕ → Type 0
DrawnAreStoredUpTo order = (trees : List ModeTree) (table : Table) (drawn : Drawn) → IsAnswerUpTo order trees table drawn
    → IsFamilyNumber (family_of drawn).store (family_of drawn).root.n

-- the numbers of ways change nothing in which nodes may be needed
abbrev pub NodesByNumbersUpTo : Option ℕ → Type 0
NodesByNumbersUpTo order = (number other : ℕ → ℕ) (forest : Forest) (table : Table) (limit : ℕ)
    → NodesMayUpTo order (trees_of number forest) table limit → NodesMayUpTo order (trees_of other forest) table limit

-- the same of all sets
abbrev pub DrawnAreMeant : Type 0
DrawnAreMeant = DrawnAreMeantUpTo None

abbrev pub DrawnAreFirable : Type 0
DrawnAreFirable = DrawnAreFirableUpTo None

abbrev pub DrawnAreStored : Type 0
DrawnAreStored = DrawnAreStoredUpTo None

abbrev pub NodesByNumbers : Type 0
NodesByNumbers = NodesByNumbersUpTo None
