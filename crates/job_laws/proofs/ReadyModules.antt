-- The modules of cuts have the same text over sources that are alike.
use Rattle.std.proofs.Common.{◌≡◌, ℕ, suc, List, ◌++◌, map, length, ◌∙◌, ap, subst}
use Rattle.std.specs.List.{flat_map}
use Rattle.ar_base.specs.Lists.{Stands}
use Rattle.ar_base.specs.Texts.{line, text_at}
use Rattle.domains.specs.declared.Value.{Value}
use Rattle.typed_expr.specs.declared.expr.Expr.{Expr}
use Rattle.ar_meaning.specs.Systems.{System}
use Rattle.ar_meaning.specs.Image.{Expr_renames}
use Rattle.ar_meaning.specs.ImageInside.{IsImage}
use Rattle.ar_meaning.specs.TraceText.{Naming, label_text}
use Rattle.ar_firing.specs.Forest.{ModeTree}
use Rattle.ar_firing.proofs.ImageCuts.{cut_there, cut_back}
use Rattle.ar_firing.proofs.ImageModes.{forest_there}
use Rattle.ar_firing.proofs.OneListing.{listed_as}
use Rattle.cut_text.specs.Texts.{braced, labels_text}
use Rattle.gate_modules.specs.Shortened.{UnitSets, ShortForm}
use Rattle.gate_modules.specs.declared.ranges.Range.{Range}
use Rattle.hierarchy.specs.Paths.{unit_path}
use Rattle.hierarchy.specs.Units.{UnitPath, Thing}
use Rattle.gts_flatten.specs.Elaborating.{Elaborated}
use Rattle.gts_flatten.specs.Flat.{naming_of}
use Rattle.module_text.specs.Ranges.{HasEvent, IsRangeOf, AreRangesOf}
use Rattle.module_text.specs.Texts.{in_firing_order, module_line, part_line, unit_mark, lines_line, module_text, form_text, short_text, IsModuleText}
use Rattle.source_laws.specs.Declarations.{IsSameThing}
use Rattle.job_laws.proofs.Families.{labels_same}
use Rattle.job_laws.proofs.Lists.{each_same, flat_same}
use Rattle.job_laws.proofs.Runs.{label_same}
use Rattle.job_laws.proofs.Shared.{Share}

-- Ranges of units

module _ (x y : Elaborated) (s : Share x y) where
  event_within : (k e : ℕ) → HasEvent x.declarations.model x.declarations.units k e
      → HasEvent y.declarations.model y.declarations.units k e
  event_within k e h = record {
    unit = h.unit;
    is_unit = subst (λ (z : List UnitPath). Stands z k h.unit) s.units h.is_unit;
    event = h.event;
    is_event = subst (λ (z : List Thing). Stands z e h.event) s.events h.is_event;
    within = h.within;
    is_within = h.is_within;
  }

module _ (x y : Elaborated) (s : Share x y) (back : Share y x) where
  range_there : (k : ℕ) (r : Range) → IsRangeOf x.declarations.model x.declarations.units k r
      → IsRangeOf y.declarations.model y.declarations.units k r
  range_there k r h = record {
    unit = h.unit;
    events = λ e.
        ((λ l. event_within x y s k e ((h.events e).0 l)), (λ g. (h.events e).1 (event_within y x back k e g)));
  }

  pub ranges_there : (ranges : List Range) → AreRangesOf x.declarations.model x.declarations.units ranges
      → AreRangesOf y.declarations.model y.declarations.units ranges
  ranges_there ranges h = record {
    long = h.long ∙ ap (λ (z : List UnitPath). length z) s.units;
    each = λ k r i. range_there (suc k) r (h.each k r i);
  }

-- Texts

module _ {V W : Type 0} (same : V → W → Type 0) (here : System V) (there : System W) (image : IsImage same here there)
    (names : Naming) (units : List (List ℕ)) (trees : List ModeTree) where
  module_same : (m : UnitSets) → module_text names units here trees m ≡ module_text names units there trees m
  module_same m =
      ap (λ (z : List ℕ). module_line (text_at units m.unit) ++ z)
      (flat_same (λ (set : List ℕ). part_line (labels_text names here (in_firing_order trees set)))
      (λ (set : List ℕ). part_line (labels_text names there (in_firing_order trees set)))
      (λ set. ap part_line (labels_same same here there image names (in_firing_order trees set))) m.sets)

  form_same : (form : ShortForm) → form_text names units here trees form ≡ form_text names units there trees form
  form_same form =
      ap (λ (z : List (List ℕ)).
      line (braced (map (λ (u : ℕ). unit_mark (text_at units u)) form.units ++ z)))
      (each_same (label_text names here) (label_text names there) (label_same same here there image names)
      (in_firing_order trees form.events))

  pub short_same : (modules : List UnitSets) (forms : List ShortForm)
      → short_text names units here trees modules forms ≡ short_text names units there trees modules forms
  short_same modules forms =
      ap (λ (z : List ℕ). z ++ (flat_map (form_text names units here trees) forms ++ lines_line (length forms)))
      (flat_same (module_text names units here trees) (module_text names units there trees) module_same modules)
      ∙ ap (λ (z : List ℕ).
      flat_map (module_text names units there trees) modules ++ (z ++ lines_line (length forms)))
      (flat_same (form_text names units here trees) (form_text names units there trees) form_same forms)

module _ (x y : Elaborated) (s : Share x y) (back : Share y x) (dropped : List ℕ) (observer other : Expr Thing)
    (q : Expr_renames IsSameThing observer other) (wanted : Value) where
  abbrev first_units : List (List ℕ)
  first_units = map (unit_path x.declarations.model) x.declarations.units

  abbrev pub module_text_there : (text : List ℕ) → IsModuleText x dropped observer wanted text
      → IsModuleText y dropped other wanted text
  module_text_there text h = record {
    cuts = h.cuts;
    are_listed = listed_as
        (λ c k. cut_there IsSameThing x.system y.system s.system dropped observer other q wanted c k)
        (λ c k. cut_back IsSameThing x.system y.system s.system dropped observer other q wanted c k) h.are_listed;
    ranges = h.ranges;
    are_ranges = ranges_there x y s back h.ranges h.are_ranges;
    modules = h.modules;
    forms = h.forms;
    is_short = h.is_short;
    trees = h.trees;
    is_forest = forest_there IsSameThing x.system y.system s.system dropped h.is_forest;
    is_text = h.is_text
        ∙ short_same IsSameThing x.system y.system s.system (naming_of x.declarations) first_units h.trees h.modules
        h.forms
        ∙ ap (λ (z : Naming). short_text z first_units y.system h.trees h.modules h.forms) s.naming
        ∙ ap (λ (z : List (List ℕ)). short_text (naming_of y.declarations) z y.system h.trees h.modules h.forms)
        s.unit_paths;
  }
