-- What the steps of the table answer.
use Rattle.std.specs.Prelude.{ℕ, ◌<◌, if◌then◌else◌, List, [], map, length, Result, Vec}
use Rattle.std.specs.Global.{Global}
use Rattle.ar_firing.specs.Forest as firing
use Rattle.ar_meaning.specs.Systems as s
use Rattle.typed_expr.specs.declared.expr.Expr.{Expr, out-Expr}
use Rattle.eq_core.specs.Gates.{Operand, Gate}
use Rattle.eq_core.specs.Views.{operand_of}
use Rattle.eq_core.specs.declared.joints.Gate as flat
use Rattle.eq_core.specs.declared.joints.Operand as sign
use Rattle.eq_build.specs.Entries as e
use Rattle.eq_build.specs.Builds.{Builds}
use Rattle.eq_build.specs.BuildsInside.{most_gates}
use Rattle.eq_build.specs.Views.{entries_in, lists_in, operands_in, row_at, BuildsOrFails}
use Rattle.eq_build.specs.declared.entries.Entry.{Entry}
use Rattle.eq_build.specs.declared.entries.BuildFault.{BuildFault}
use Rattle.gts_core.specs.declared.system.Variable.{Variable}
use Rattle.mode_trees.specs.Views.{edge_row, tree_of}
use Rattle.mode_trees.specs.declared.forests.Edge.{Edge}
use Rattle.mode_trees.specs.declared.forests.ModeTree.{ModeTree}
use Rattle.eq_build.specs.Steps.{Reading, Threads, Builds_assign}
use Rattle.tree_equations.specs.declared.assigning.BuiltAssign.{BuiltAssign}

-- whatever comes out, there are more gates than a table may have
abbrev pub TooMany : {B : Type 0} → (B → List Gate → Type 0) → Type 0
TooMany {B} done = (b : B) (h : List Gate) → done b h → most_gates < length h

-- what is done, as the definitions see it, or a fault
abbrev pub Gives : {A B : Type 0} → (A → B) → (B → List Gate → Type 0) → Result A BuildFault → List flat.Gate → Type 0
Gives view done = BuildsOrFails (λ a h. done (view a) h) (TooMany done)

-- lists of the code
abbrev pub Entries : Type 0
Entries = Vec Entry Global

abbrev pub row_in : Entries → List e.Entry
row_in row = entries_in row.items

abbrev pub rows_in : Vec Entries Global → List (List e.Entry)
rows_in rows = lists_in rows.items

abbrev pub signs_in : Vec sign.Operand Global → List Operand
signs_in os = operands_in os.items

-- ways are looked at nowhere
abbrev pub plain : ℕ → ℕ
plain n = n

abbrev pub edges_in : List Edge → List firing.Row
edges_in edges = map (edge_row plain) edges

abbrev pub tree_in : ModeTree → firing.ModeTree
tree_in tree = tree_of plain tree

abbrev pub trees_in : List ModeTree → List firing.ModeTree
trees_in trees = map tree_in trees

-- each in turn gives what it gives
abbrev pub GivesEach : {A X B C : Type 0} → (C → List B) → (X → A) → (List Gate → A → B → List Gate → Type 0)
    → List Gate → List X → Result C BuildFault → List flat.Gate → Type 0
GivesEach view each R g xs = Gives view (λ ys h. Threads R g (map each xs) ys h)

-- the entries of an expression over plain numbers
abbrev pub GivesBuilt : Reading → List Gate → Expr ℕ → Result Entries BuildFault → List flat.Gate → Type 0
GivesBuilt read g e = Gives row_in (λ es h. Builds read g (out-Expr ℕ e) (record { entries = es; gates = h }))

-- what an assignment's conditions and expression come to, without the gates
abbrev pub assignment_parts : BuiltAssign → List Operand × List e.Entry
assignment_parts r = (signs_in r.conditions, row_in r.entries)

abbrev pub GivesAssign : Reading → List Gate → s.Assign ℕ → Result BuiltAssign BuildFault → List flat.Gate → Type 0
GivesAssign read g a = Gives assignment_parts (λ r h. Builds_assign read g a
    (record { conditions = r.0; entries = r.1; gates = h }))

-- an operand is given
abbrev pub GivesOperand : (Operand → List Gate → Type 0) → Result sign.Operand BuildFault → List flat.Gate → Type 0
GivesOperand done = Gives operand_of done

-- so many rounds of a block lead to these rows
abbrev pub RoundsLeadTo : (Reading → List Gate → Type 0) → Result (Unit {0}) BuildFault → List Entries → List flat.Gate
    → Type 0
RoundsLeadTo done result rows = Gives (λ _. row_at rows) done result

-- a number stands for itself
abbrev pub itself : ℕ → ℕ
itself n = n

-- what a variable reads where no tree has it
abbrev pub init_of : Variable → List e.Entry
init_of x = if x.is_state then e.only x.value else []
