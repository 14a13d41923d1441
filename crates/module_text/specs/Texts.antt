-- The text of the modules of a source's cuts.
use Rattle.std.specs.Prelude.{◌≡◌, ℕ, List, ◌++◌, map, codes, decimal, length}
use Rattle.std.specs.List.{filter, flat_map}
use Rattle.ar_base.specs.Texts.{line, text_at}
use Rattle.domains.specs.declared.Value.{Value}
use Rattle.typed_expr.specs.declared.expr.Expr.{Expr}
use Rattle.ar_meaning.specs.Systems.{System}
use Rattle.ar_meaning.specs.Runs.{Label}
use Rattle.ar_meaning.specs.TraceText.{Naming, label_text}
use Rattle.ar_firing.specs.Cuts.{Cut}
use Rattle.ar_firing.specs.Forest.{Row, ModeTree, IsForest}
use Rattle.ar_firing.specs.Listed.{AreListed}
use Rattle.zdd_nodes.specs.Families.{holds}
use Rattle.hierarchy.specs.Paths.{unit_path}
use Rattle.hierarchy.specs.Units.{Thing}
use Rattle.gts_flatten.specs.Elaborating.{Elaborated}
use Rattle.gts_flatten.specs.Flat.{naming_of}
use Rattle.cut_text.specs.Texts.{braced, labels_text}
use Rattle.gate_modules.specs.Shortened.{UnitSets, ShortForm, IsShortened}
use Rattle.gate_modules.specs.declared.ranges.Range.{Range}
use Rattle.module_text.specs.Ranges.{AreRangesOf}

-- the labels of the trees' edges: tree by tree, each from its root downward
abbrev pub labels_of : List ModeTree → List Label
labels_of trees = flat_map (λ (t : ModeTree). map (λ (r : Row). r.label) t.edges) trees

-- the labels of the edges of a set's events in firing order, also where the set has but a part of a firable set's
-- events
abbrev pub in_firing_order : List ModeTree → List ℕ → List Label
in_firing_order trees set = filter (λ (l : Label). holds l.event set) (labels_of trees)

-- `module PATH`
abbrev pub module_line : List ℕ → List ℕ
module_line path = line (codes "module " ++ path)

-- `  {a, b}`
abbrev pub part_line : List ℕ → List ℕ
part_line set = line (codes "  " ++ set)

-- `[PATH]`
abbrev pub unit_mark : List ℕ → List ℕ
unit_mark path = codes "[" ++ (path ++ codes "]")

-- `lines N`
abbrev pub lines_line : ℕ → List ℕ
lines_line n = line (codes "lines " ++ decimal n)

-- the lines of a module: its unit's path, and each of its sets with its labels in firing order
abbrev pub module_text : {V : Type 0} → Naming → List (List ℕ) → System V → List ModeTree → UnitSets → List ℕ
module_text names units sys trees m =
    module_line (text_at units m.unit) ++ flat_map
    (λ set. part_line (labels_text names sys (in_firing_order trees set))) m.sets

-- the line of a short form: its units by number, then the labels of its other events in firing order
abbrev pub form_text : {V : Type 0} → Naming → List (List ℕ) → System V → List ModeTree → ShortForm → List ℕ
form_text names units sys trees form =
    line (braced (map (λ u. unit_mark (text_at units u)) form.units ++ map (label_text names sys)
    (in_firing_order trees form.events)))

-- the lines of modules and short forms, and last how many short forms there are
abbrev pub short_text : {V : Type 0} → Naming → List (List ℕ) → System V → List ModeTree → List UnitSets → List
    ShortForm → List ℕ
short_text names units sys trees modules forms =
    flat_map (module_text names units sys trees)
    modules ++ (flat_map (form_text names units sys trees) forms ++ lines_line (length forms))

-- the text of the cuts of the observer's value in short, where each unit but the main block has its events and those of
-- the units within it
pub record IsModuleText (x : Elaborated) (dropped : List ℕ) (observer : Expr Thing) (wanted : Value)
    (text : List ℕ) : Type 0 where
  pub cuts : List (List ℕ)
  pub are_listed : AreListed (Cut x.system dropped observer wanted) cuts
  pub ranges : List Range
  pub are_ranges : AreRangesOf x.declarations.model x.declarations.units ranges
  pub modules : List UnitSets
  pub forms : List ShortForm
  pub is_short : IsShortened cuts ranges modules forms
  pub trees : List ModeTree
  pub is_forest : IsForest x.system dropped trees
  pub is_text : text ≡ short_text (naming_of x.declarations) (map (unit_path x.declarations.model) x.declarations.units)
      x.system trees modules forms
