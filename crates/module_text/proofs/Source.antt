-- What is written by the parts of a flat system is the text of its source.
use Rattle.std.proofs.Common.{◌≡◌, ◌-◌, ℕ, Bool, true, false, cond, List, [], ◌∷◌, ◌++◌, map, filter, slice_get, Option, Some, refl, sym, ◌∙◌, ap, ap₂, subst}
use Rattle.std.specs.List.{flat_map}
use Rattle.std.proofs.lemmas.List.{map-append, length-map}
use Rattle.std.proofs.lemmas.List.Elements.{filter-append}
use Rattle.domains.specs.declared.Value.{Value}
use Rattle.ar_base.specs.Texts.{line, text_at}
use Rattle.ar_base.proofs.Standing.{one_first, one_rest}
use Rattle.typed_expr.specs.PairsInside.{turned_pairs}
use Rattle.typed_expr.specs.declared.expr.Expr.{Expr}
use Rattle.ar_meaning.specs.Systems.{System}
use Rattle.ar_meaning.specs.Runs.{Label}
use Rattle.ar_meaning.specs.TraceText.{Naming, label_text, way_text}
use Rattle.ar_meaning.specs.FlatOf.{IsNumber, IsFlatOf}
use Rattle.ar_meaning.specs.Image.{Expr_renames}
use Rattle.ar_meaning.proofs.FlatSystems.{flat_image, flat_back}
use Rattle.ar_meaning.proofs.ImageWays.{ways_count}
use Rattle.ar_firing.specs.Cuts.{Cut}
use Rattle.ar_firing.specs.Forest.{Row}
use Rattle.ar_firing.specs.Forest as firing
use Rattle.ar_firing.specs.Listed.{AreListed}
use Rattle.ar_firing.proofs.ImageCuts.{cut_there, cut_back}
use Rattle.ar_firing.proofs.ImageModes.{forest_there}
use Rattle.ar_firing.proofs.OneListing.{listed_as}
use Rattle.gts_core.specs.View.{Views}
use Rattle.gts_core.specs.declared.system.GtsParts.{GtsParts}
use Rattle.gts_core.specs.declared.system.Way.{Way}
use Rattle.gts_flatten.specs.Elaborating.{Elaborated}
use Rattle.gts_flatten.specs.Flat.{naming_of, naming_of_parts}
use Rattle.hierarchy.specs.Paths.{unit_path}
use Rattle.hierarchy.specs.Units.{Thing}
use Rattle.mode_trees.specs.Views.{edge_row, tree_of, trees_of, number_in, number_of_found}
use Rattle.mode_trees.specs.Ways.{HasOwnWay, HaveOwnWays, OwnTheirWays}
use Rattle.mode_trees.specs.declared.forests.Edge.{Edge}
use Rattle.mode_trees.specs.declared.forests.Forest.{Forest}
use Rattle.mode_trees.specs.declared.forests.ModeTree.{ModeTree}
use Rattle.text_pieces.specs.WayLabels.{way_label_found, numbered_label, way_label}
use Rattle.text_pieces.proofs.Ways.{label_alike}
use Rattle.zdd_nodes.specs.Families.{holds}
use Rattle.cut_text.specs.Printed.{forest_edges, things_of, IsForestOf}
use Rattle.cut_text.specs.Texts.{braced, labels_text}
use Rattle.gate_modules.specs.Shortened.{UnitSets, ShortForm}
use Rattle.gate_modules.specs.ShortenedInside.{Shortens, module_of, short_form_of}
use Rattle.gate_modules.specs.declared.ranges.Range.{Range}
use Rattle.gate_modules.specs.declared.ranges.Short.{Short}
use Rattle.module_text.specs.Printed.{edge_labels_in, module_lines, form_line, short_lines}
use Rattle.module_text.specs.Ranges.{AreRangesOf}
use Rattle.module_text.specs.Texts.{labels_of, in_firing_order, module_line, part_line, unit_mark, lines_line, module_text, form_text, short_text, IsModuleText}

flat_same : {A B : Type 0} (f g : A → List B) → ((a : A) → f a ≡ g a) → (xs : List A) → flat_map f xs ≡ flat_map g xs
flat_same f g h [] = refl
flat_same f g h (x ∷ xs) = ap₂ (λ y z. y ++ z) (h x) (flat_same f g h xs)

label_in : Row → Label
label_in r = r.label

module _ (x : Elaborated) (p : GtsParts) (flat : System ℕ) (dropped : List ℕ) (f : Forest)
    (one : (a b : System ℕ) → Views p a → Views p b → a ≡ b) (h : IsForestOf x p flat dropped f) where
  abbrev things : List Thing
  things = things_of x

  abbrev names : Naming
  names = naming_of x.declarations

  is_flat_of : IsFlatOf things x.system flat
  is_flat_of = subst (λ (z : System ℕ). IsFlatOf things x.system z) (one h.is_flat.flat flat h.is_flat.views h.views)
      h.is_flat.is_flat

  -- the label of an edge
  same_label : (e : Edge) → HasOwnWay p e → (edge_row (number_in p) e).label ≡ numbered_label p e.way.n
  same_label e own =
      let i : slice_get p.ways.items e.way.n ≡ Some own.way = own.stands in
      let a : (edge_row (number_in p) e).label ≡ record { event = e.event.n; way = own.way.number - 1 } =
      ap (λ (o : Option Way). (let k : Label = record { event = e.event.n; way = number_of_found o } in k)) i in
      let b : numbered_label p e.way.n ≡ record { event = own.way.event.n; way = own.way.number - 1 } = ap way_label_found i in
      a ∙ (ap (λ (n : ℕ). (let k : Label = record { event = n; way = own.way.number - 1 } in k)) (sym own.is_event) ∙ sym b)

  label_is : (e : Edge) → HasOwnWay p e → way_label p e.way.n ≡ label_text names x.system (edge_row (number_in p) e).label
  label_is e own =
      sym (label_alike p flat h.views e.way.n)
      ∙ ap (λ (k : Label). label_text (naming_of_parts p) flat k) (sym (same_label e own))
      ∙ ap (λ (z : Naming). label_text z flat (edge_row (number_in p) e).label) h.is_flat.names
      ∙ ap (λ (z : ℕ). way_text (text_at names.events (edge_row (number_in p) e).label.event) z
      (edge_row (number_in p) e).label.way)
      (sym (ways_count (IsNumber things) is_flat_of.events (edge_row (number_in p) e).label.event))

  module _ (set : List ℕ) where
    abbrev rows : List Edge → List Label
    rows es = map (λ (r : Row). r.label) (map (edge_row (number_in p)) es)

    abbrev kept : List Label → List (List ℕ)
    kept ls = map (label_text names x.system) (filter (λ (k : Label). holds k.event set) ls)

    edges_are : (es : List Edge) → HaveOwnWays p es → edge_labels_in p es set ≡ kept (rows es)
    edges_are [] own = refl
    edges_are (e ∷ es) own = step (holds e.event.n set)
        (edges_are es (record { each = λ g o. own.each g (one_rest e es g o) }))
      where
        step : (b : Bool) → edge_labels_in p es set ≡ kept (rows es)
            → map (λ (e : Edge). way_label p e.way.n)
            (cond b (e ∷ filter (λ (e : Edge). holds e.event.n set) es)
            (filter (λ (e : Edge). holds e.event.n set) es))
            ≡ map (label_text names x.system)
            (cond b ((edge_row (number_in p) e).label ∷ filter (λ (k : Label). holds k.event set) (rows es))
            (filter (λ (k : Label). holds k.event set) (rows es)))
        step true ih = ap₂ (λ y z. y ∷ z) (label_is e (own.each e (one_first e es))) ih
        step false ih = ih

    trees_are : (ts : List ModeTree) → OwnTheirWays p ts
        → edge_labels_in p (forest_edges ts) set ≡ kept (labels_of (map (tree_of (number_in p)) ts))
    trees_are [] own = refl
    trees_are (t ∷ ts) own =
        let test = λ (e : Edge). holds e.event.n set in
        let test2 = λ (k : Label). holds k.event set in
        ap (map (λ (e : Edge). way_label p e.way.n)) (filter-append test t.edges.items (forest_edges ts))
        ∙ map-append (λ (e : Edge). way_label p e.way.n) (filter test t.edges.items) (filter test (forest_edges ts))
        ∙ ap₂ (λ y z. y ++ z) (edges_are t.edges.items (own.each t (one_first t ts)))
        (trees_are ts (record { each = λ u o. own.each u (one_rest t ts u o) }))
        ∙ sym (map-append (label_text names x.system) (filter test2 (rows t.edges.items))
        (filter test2 (labels_of (map (tree_of (number_in p)) ts))))
        ∙ ap (map (label_text names x.system))
        (sym (filter-append test2 (rows t.edges.items) (labels_of (map (tree_of (number_in p)) ts))))

  abbrev edges : List Edge
  edges = forest_edges f.trees.items

  abbrev trees : List firing.ModeTree
  trees = trees_of (number_in p) f

  abbrev units : List (List ℕ)
  units = map (unit_path x.declarations.model) x.declarations.units

  labels_are : (set : List ℕ) → edge_labels_in p edges set ≡ map (label_text names x.system) (in_firing_order trees set)
  labels_are set = trees_are set f.trees.items h.own

  modules_are : (m : UnitSets) → module_lines p edges m ≡ module_text names units x.system trees m
  modules_are m = ap₂ (λ y z. y ++ z) (ap (λ z. module_line (text_at z m.unit)) h.is_flat.units_are)
      (flat_same (λ set. part_line (braced (edge_labels_in p edges set)))
      (λ set. part_line (labels_text names x.system (in_firing_order trees set)))
      (λ set. ap (λ z. part_line (braced z)) (labels_are set)) m.sets)

  forms_are : (form : ShortForm) → form_line p edges form ≡ form_text names units x.system trees form
  forms_are form = ap₂ (λ y z. line (braced (y ++ z)))
      (ap (λ z. map (λ u. unit_mark (text_at z u)) form.units) h.is_flat.units_are) (labels_are form.events)

  pub text_is : (short : Short) → short_lines p f short
      ≡ short_text names units x.system trees (map module_of short.modules.items) (map short_form_of short.sets.items)
  text_is short = ap₂ (λ y z. y ++ z)
      (flat_same (module_lines p edges) (module_text names units x.system trees) modules_are
      (map module_of short.modules.items))
      (ap₂ (λ y z. y ++ lines_line z) (flat_same (form_line p edges) (form_text names units x.system trees) forms_are
      (map short_form_of short.sets.items)) (sym (length-map short.sets.items short_form_of)))

  module _ (observer : Expr Thing) (other : Expr ℕ) (q : Expr_renames (IsNumber things) observer other)
      (wanted : Value) where
    pub module_text_is : (sets : List (List ℕ)) → AreListed (Cut flat dropped other wanted) sets → (ranges : List Range)
        → AreRangesOf x.declarations.model x.declarations.units ranges
        → (short : Short) → Shortens sets ranges short → IsModuleText x dropped observer wanted (short_lines p f short)
    module_text_is sets listed ranges are short is = record {
      cuts = sets;
      are_listed = listed_as
          (λ s c. cut_back (IsNumber things) x.system flat (flat_image things x.system flat is_flat_of) dropped observer
          other q wanted s c)
          (λ s c. cut_there (IsNumber things) x.system flat (flat_image things x.system flat is_flat_of) dropped
          observer other q wanted s c)
          listed;
      ranges = ranges;
      are_ranges = are;
      modules = map module_of short.modules.items;
      forms = map short_form_of short.sets.items;
      is_short = is;
      trees = trees;
      is_forest = forest_there (turned_pairs (IsNumber things)) flat x.system (flat_back things x.system flat is_flat_of)
          dropped h.is_forest;
      is_text = text_is short;
    }
