-- The text of a forest.
use Rattle.std.specs.Prelude.{◌≡◌, ℕ, List, [], ◌∷◌, ◌++◌, codes, decimal, length}
use Rattle.ar_base.specs.Lists.{IsOneOf, AreDifferent}
use Rattle.ar_base.specs.Texts.{line, text_at}
use Rattle.ar_meaning.specs.Systems.{System}
use Rattle.ar_meaning.specs.TraceText.{Naming, label_text}
use Rattle.ar_meaning.specs.ValueTexts.{value_text}
use Rattle.ar_firing.specs.Forest.{Row, ModeTree, IsForest}
use Rattle.ar_firing.specs.Rules.{IsLiveEvent}

-- `  FROM LABEL TO`
abbrev pub edge_text : List ℕ → List ℕ → List ℕ → List ℕ
edge_text from label to = line (codes "  " ++ (from ++ (codes " " ++ (label ++ (codes " " ++ to)))))

-- `tree PATH at VALUE`
abbrev pub root_text : List ℕ → List ℕ → List ℕ
root_text path first = line (codes "tree " ++ (path ++ (codes " at " ++ first)))

-- `events N`
abbrev pub events_line : ℕ → List ℕ
events_line n = line (codes "events " ++ decimal n)

-- the lines of these edges
abbrev pub row_lines : {V : Type 0} → Naming → System V → List Row → List ℕ
row_lines names sys [] = []
row_lines names sys (r ∷ rs) =
    edge_text (value_text names.symbols r.from) (label_text names sys r.label)
    (value_text names.symbols r.to) ++ row_lines names sys rs

-- the lines of these trees: of each its variable with the init value, and then its edges
abbrev pub tree_lines : {V : Type 0} → Naming → System V → List ModeTree → List ℕ
tree_lines names sys [] = []
tree_lines names sys (t ∷ ts) =
    (root_text (text_at names.variables t.variable) (value_text names.symbols t.first) ++ row_lines names sys t.edges)
    ++ tree_lines names sys ts

-- these are the events that have a live edge, each once
pub record AreLiveEvents {V : Type 0} (sys : System V) (dropped : List ℕ) (events : List ℕ) : Type 0 where
  pub sound : (e : ℕ) → IsOneOf events e → IsLiveEvent sys dropped e
  pub whole : (e : ℕ) → IsLiveEvent sys dropped e → IsOneOf events e
  pub different : AreDifferent events

-- the text of the system's forest: the lines of its trees, and last how many events have a live edge
pub record IsForestText {V : Type 0} (names : Naming) (sys : System V) (dropped : List ℕ) (text : List ℕ) : Type 0 where
  pub trees : List ModeTree
  pub is_forest : IsForest sys dropped trees
  pub events : List ℕ
  pub are_live : AreLiveEvents sys dropped events
  pub is_text : text ≡ tree_lines names sys trees ++ events_line (length events)
