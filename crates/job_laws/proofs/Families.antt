-- Forests, cuts, conflicts and checks of lists have the same texts over systems that are images of each other.
use Rattle.std.proofs.Common.{◌≡◌, ◌&&◌, ℕ, Option, List, [], ◌∷◌, ◌++◌, length, refl, ◌∙◌, ap}
use Rattle.ar_base.specs.Lists.{Along}
use Rattle.domains.specs.declared.Value.{Value}
use Rattle.typed_expr.specs.PairsInside.{turned_pairs}
use Rattle.typed_expr.specs.declared.expr.Expr.{Expr}
use Rattle.ar_meaning.specs.Systems.{System}
use Rattle.ar_meaning.specs.Image.{Expr_renames}
use Rattle.ar_meaning.specs.ImageInside.{IsImage}
use Rattle.ar_meaning.specs.Runs.{Label}
use Rattle.ar_meaning.specs.TraceText.{Naming, label_text, flow_fault_text}
use Rattle.ar_meaning.proofs.ImageTurned.{image_turned}
use Rattle.ar_firing.specs.Forest.{Row, ModeTree, IsLine}
use Rattle.ar_firing.specs.Cuts.{Cut, ConflictSet}
use Rattle.ar_firing.specs.Rules.{IsLiveEvent}
use Rattle.cut_check.specs.Verdicts.{IsMissing}
use Rattle.cut_text.proofs.UpToOrder.{has_other}
use Rattle.ar_firing.proofs.ImageCuts.{cut_there, cut_back, conflict_set_there, conflicts_there}
use Rattle.ar_firing.proofs.ImageModes.{live_there, forest_there, line_there}
use Rattle.ar_firing.proofs.OneListing.{listed_as}
use Rattle.check_text.specs.Texts.{missing_lines, IsCheckText, within_order, lines_in, said_lines, last_line, all_good, is_none}
use Rattle.cut_check.proofs.LawLemmas.{said_there, missing_there, missing_back}
use Rattle.cut_text.specs.ForestTexts.{row_lines, tree_lines, events_line, IsForestText}
use Rattle.cut_text.specs.Texts.{braced, labels_text, label_lists, count_line, fault_line, IsCutText, IsConflictText}
use Rattle.job_inputs.specs.CutLists.{CutLine}
use Rattle.job_laws.proofs.Lists.{along_each, each_same}
use Rattle.job_laws.proofs.Runs.{label_same}

module _ {V W : Type 0} (same : V → W → Type 0) (here : System V) (there : System W) (image : IsImage same here there)
    (dropped : List ℕ) where
  live_event_there : (e : ℕ) → IsLiveEvent here dropped e → IsLiveEvent there dropped e
  live_event_there e h = record {
    number = h.number;
    live = record {
      label = h.live.label;
      is_event = h.live.is_event;
      from = h.live.from;
      to = h.live.to;
      is_live = live_there same here there image dropped h.live.is_live;
    };
  }

  pub lines_there : {sets : List (List ℕ)} {lines : List (List Label)} → Along (IsLine here dropped) sets lines
      → Along (IsLine there dropped) sets lines
  lines_there h = along_each (λ set ls l. line_there same here there image dropped l) h

-- Texts of labels

module _ {V W : Type 0} (same : V → W → Type 0) (here : System V) (there : System W) (image : IsImage same here there)
    (names : Naming) where
  pub labels_same : (ls : List Label) → labels_text names here ls ≡ labels_text names there ls
  labels_same ls =
      ap braced
      (each_same (label_text names here) (label_text names there) (label_same same here there image names) ls)

  pub lists_same : (lines : List (List Label)) → label_lists names here lines ≡ label_lists names there lines
  lists_same [] = refl
  lists_same (ls ∷ more) = let e = labels_same ls in let r = lists_same more in cc

  pub missing_same : (lines : List (List Label)) → missing_lines names here lines ≡ missing_lines names there lines
  missing_same [] = refl
  missing_same (ls ∷ more) = let e = labels_same ls in let r = missing_same more in cc

  rows_same : (rows : List Row) → row_lines names here rows ≡ row_lines names there rows
  rows_same [] = refl
  rows_same (r ∷ rs) = let e = label_same same here there image names r.label in let h = rows_same rs in cc

  trees_same : (trees : List ModeTree) → tree_lines names here trees ≡ tree_lines names there trees
  trees_same [] = refl
  trees_same (t ∷ ts) = let e = rows_same t.edges in let h = trees_same ts in cc

-- Texts

module _ {V W : Type 0} (same : V → W → Type 0) (here : System V) (there : System W) (image : IsImage same here there)
    (names others : Naming) (called : names ≡ others) (dropped : List ℕ) where
  pub forest_text_there : (text : List ℕ) → IsForestText names here dropped text
      → IsForestText others there dropped text
  forest_text_there text h = record {
    trees = h.trees;
    is_forest = forest_there same here there image dropped h.is_forest;
    events = h.events;
    are_live = record {
      sound = λ e o. live_event_there same here there image dropped e (h.are_live.sound e o);
      whole = λ e l.
          h.are_live.whole e (live_event_there (turned_pairs same) there here (image_turned same image) dropped e l);
      different = h.are_live.different;
    };
    is_text = h.is_text ∙ ap (λ (z : List ℕ). z ++ events_line (length h.events))
        (trees_same same here there image names h.trees)
        ∙ ap (λ (z : Naming). tree_lines z there h.trees ++ events_line (length h.events)) called;
  }

  pub conflict_text_there : (order : Option ℕ) (text : List ℕ) → IsConflictText order names here dropped text
      → IsConflictText order others there dropped text
  conflict_text_there order text h = record {
    set = h.set;
    later = h.later;
    are_listed = listed_as
        (has_other order (ConflictSet here dropped) (ConflictSet there dropped)
        (λ s c. conflict_set_there same here there image dropped s c))
        (has_other order (ConflictSet there dropped) (ConflictSet here dropped)
        (λ s c. conflict_set_there (turned_pairs same) there here (image_turned same image) dropped s c)) h.are_listed;
    labels = h.labels;
    is_line = line_there same here there image dropped h.is_line;
    fault = h.fault;
    conflicts = conflicts_there same here there image dropped h.conflicts;
    is_text = h.is_text ∙ ap (λ (z : List ℕ). fault_line z (flow_fault_text names h.fault))
        (labels_same same here there image names h.labels)
        ∙ ap (λ (z : Naming). fault_line (labels_text z there h.labels) (flow_fault_text z h.fault)) called;
  }

  module _ (observer : Expr V) (other : Expr W) (q : Expr_renames same observer other) (wanted : Value) where
    abbrev pub cut_text_there : (order : Option ℕ) (text : List ℕ) → IsCutText order names here dropped observer wanted text
        → IsCutText order others there dropped other wanted text
    cut_text_there order text h = record {
      sets = h.sets;
      are_listed = listed_as
          (has_other order (Cut here dropped observer wanted) (Cut there dropped other wanted)
          (λ s c. cut_there same here there image dropped observer other q wanted s c))
          (has_other order (Cut there dropped other wanted) (Cut here dropped observer wanted)
          (λ s c. cut_back same here there image dropped observer other q wanted s c)) h.are_listed;
      lines = h.lines;
      are_lines = lines_there same here there image dropped h.are_lines;
      is_text = h.is_text ∙ ap (λ (z : List ℕ). z ++ count_line order (length h.sets))
          (lists_same same here there image names h.lines)
          ∙ ap (λ (z : Naming). label_lists z there h.lines ++ count_line order (length h.sets)) called;
    }

    abbrev pub check_text_there : (order : Option ℕ) (cuts : List CutLine) (text : List ℕ)
        → IsCheckText order names here dropped observer wanted cuts text
        → IsCheckText order others there dropped other wanted cuts text
    check_text_there order cuts text h = record {
      said = h.said;
      are_said = record {
        long = h.are_said.long;
        each = λ n said s.
            said_there same here there image dropped observer other q wanted (lines_in (within_order order cuts)) n said
            (h.are_said.each n said s);
      };
      missing = h.missing;
      are_missing = listed_as
          (has_other order (IsMissing here dropped observer wanted (lines_in (within_order order cuts)))
          (IsMissing there dropped other wanted (lines_in (within_order order cuts)))
          (λ s m. missing_there same here there image dropped observer other q wanted (lines_in (within_order order cuts))
          s m))
          (has_other order (IsMissing there dropped other wanted (lines_in (within_order order cuts)))
          (IsMissing here dropped observer wanted (lines_in (within_order order cuts)))
          (λ s m. missing_back same here there image dropped observer other q wanted (lines_in (within_order order cuts))
          s m))
          h.are_missing;
      lines = h.lines;
      are_lines = lines_there same here there image dropped h.are_lines;
      is_text = h.is_text
          ∙ ap (λ (z : List ℕ). said_lines order (within_order order cuts) cuts h.said
          ++ (z ++ last_line order (all_good h.said && is_none h.missing)))
          (missing_same same here there image names h.lines)
          ∙ ap (λ (z : Naming). said_lines order (within_order order cuts) cuts h.said
          ++ (missing_lines z there h.lines ++ last_line order (all_good h.said && is_none h.missing))) called;
    }
