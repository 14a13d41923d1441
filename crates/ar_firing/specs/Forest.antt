-- The forest: a tree of edges for each mode variable, and the order in which the labels of a set are listed.
use Rattle.std.specs.Prelude.{◌≡◌, ◌<◌, ◌≤◌, ◌+◌, ℕ, suc, true, cond, List, [], ◌∷◌, ◌++◌, reverse}
use Rattle.ar_base.specs.Lists.{Stands, IsOneOf}
use Rattle.domains.specs.declared.Value.{Value}
use Rattle.ar_meaning.specs.Systems.{Variable, Way, System}
use Rattle.ar_meaning.specs.Runs.{Label}
use Rattle.ar_firing.specs.Fragment.{IsKept, Edge}
use Rattle.ar_firing.specs.Cuts.{IsFirable}

-- the unit has transitions: one of its events that are not dropped has a way
pub record HasTransitions {V : Type 0} (sys : System V) (dropped : List ℕ) (unit : ℕ) : Type 0 where
  pub label : Label
  pub way : Way V
  pub is_kept : IsKept sys dropped label way
  pub is_unit : is_kept.is_way.event.unit ≡ unit

-- the variable of this number is a state variable of a unit with transitions
pub record IsModeVariable {V : Type 0} (sys : System V) (dropped : List ℕ) (n : ℕ) : Type 0 where
  pub variable : Variable V
  pub stands : Stands sys.net.variables n variable
  pub is_state : variable.is_state ≡ true
  pub moves : HasTransitions sys dropped variable.unit

-- an edge with its label and its two modes
pub record Row : Type 0 where
  pub from : Value
  pub label : Label
  pub to : Value

-- the edges below this mode by events from number `low` on, in the order of their events, each before those below the
-- mode that it enters
pub data Under {V : Type 0} (sys : System V) (dropped : List ℕ) (n : ℕ) : Value → ℕ → List Row → Type 0 where
  no_more : {m : Value} {low : ℕ} → ((l : Label) (to : Value) → low ≤ l.event → Edge sys dropped l n m to → ⊥)
      → Under sys dropped n m low []
  next : {m to : Value} {low : ℕ} {l : Label} {es fs : List Row} → low ≤ l.event → Edge sys dropped l n m to
      → ((k : Label) (u : Value) → low ≤ k.event → k.event < l.event → Edge sys dropped k n m u → ⊥)
      → Under sys dropped n to 0 es → Under sys dropped n m (l.event + 1) fs
      → Under sys dropped n m low (record { from = m; label = l; to = to } ∷ (es ++ fs))

-- a variable's tree: its number, its init value, and its edges
pub record ModeTree : Type 0 where
  pub variable : ℕ
  pub first : Value
  pub edges : List Row

-- the tree is that of a mode variable
pub record IsModeTree {V : Type 0} (sys : System V) (dropped : List ℕ) (tree : ModeTree) : Type 0 where
  pub is_mode : IsModeVariable sys dropped tree.variable
  pub first : tree.first ≡ is_mode.variable.value
  pub edges : Under sys dropped tree.variable tree.first 0 tree.edges

-- the trees are those of the mode variables, each once, by number
pub record IsForest {V : Type 0} (sys : System V) (dropped : List ℕ) (trees : List ModeTree) : Type 0 where
  pub sound : (k : ℕ) (tree : ModeTree) → Stands trees k tree → IsModeTree sys dropped tree
  pub whole : (n : ℕ) → IsModeVariable sys dropped n → (tree : ModeTree) × IsOneOf trees tree × (tree.variable ≡ n)
  pub ascends : (j k : ℕ) (s t : ModeTree) → j < k → Stands trees j s → Stands trees k t → s.variable < t.variable

-- the labels of the paths of these variables, numbered from n on: variable by variable, each path from its root
-- downward
abbrev pub firing_line : {V : Type 0} → ℕ → List (Variable V) → (ℕ → List Label) → List Label
firing_line n [] path = []
firing_line n (x ∷ xs) path = cond x.is_state (reverse (path n)) [] ++ firing_line (suc n) xs path

-- the labels are those of a firable set in firing order
pub record IsLine {V : Type 0} (sys : System V) (dropped : List ℕ) (set : List ℕ) (ls : List Label) : Type 0 where
  pub values : List Value
  pub is_firable : IsFirable sys dropped set values
  pub is : ls ≡ firing_line 0 sys.net.variables is_firable.path
