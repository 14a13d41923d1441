-- The lines of a flat system's forest as they are written are those of its system, and of the system's source.
use Rattle.std.proofs.Common.{◌≡◌, ◌-◌, ◌+◌, ℕ, List, [], ◌∷◌, ◌++◌, map, length, slice_get, Option, Some, refl, sym, ◌∙◌, ap, length-append}
use Rattle.std.proofs.lemmas.List.{length-map}
use Rattle.ar_base.specs.Texts.{text_at}
use Rattle.ar_base.proofs.Standing.{one_first, one_rest}
use Rattle.ar_meaning.specs.Systems.{System}
use Rattle.ar_meaning.specs.Runs.{Label}
use Rattle.ar_meaning.specs.TraceText.{Naming, label_text, way_text}
use Rattle.ar_meaning.specs.ValueTexts.{value_text}
use Rattle.ar_meaning.specs.FlatOf.{IsNumber, IsFlatOf}
use Rattle.ar_meaning.proofs.ImageWays.{ways_count}
use Rattle.ar_firing.specs.Forest.{Row}
use Rattle.ar_firing.specs.Forest as firing
use Rattle.gts_core.specs.View.{Views}
use Rattle.gts_core.specs.declared.system.GtsParts.{GtsParts}
use Rattle.gts_core.specs.declared.system.Way.{Way}
use Rattle.gts_flatten.specs.Flat.{naming_of_parts}
use Rattle.text_pieces.specs.WayLabels.{way_label_found, numbered_label, way_label}
use Rattle.text_pieces.proofs.Ways.{label_alike}
use Rattle.mode_trees.specs.Views.{edge_row, tree_of, number_in, number_of_found}
use Rattle.mode_trees.specs.Ways.{HasOwnWay, HaveOwnWays, OwnTheirWays}
use Rattle.mode_trees.specs.declared.forests.Edge.{Edge}
use Rattle.mode_trees.specs.declared.forests.ModeTree.{ModeTree}
use Rattle.cut_text.specs.ForestTexts.{edge_text, root_text, row_lines, tree_lines}
use Rattle.cut_text.specs.ForestPrinted.{edge_lines, trees_text, edge_count}
use Rattle.cut_text.proofs.EdgeEvents.{event_of, events_of}

-- the forest of a flat system
module _ (p : GtsParts) (sys : System ℕ) (views : Views p sys) where
  same_label : (e : Edge) → HasOwnWay p e → (edge_row (number_in p) e).label ≡ numbered_label p e.way.n
  same_label e own =
      let i : slice_get p.ways.items e.way.n ≡ Some own.way = own.stands in
      let a : (edge_row (number_in p) e).label ≡ record { event = e.event.n; way = own.way.number - 1 } =
      ap (λ (o : Option Way). (let k : Label = record { event = e.event.n; way = number_of_found o } in k)) i in
      let b : numbered_label p e.way.n ≡ record { event = own.way.event.n; way = own.way.number - 1 } = ap way_label_found i in
      a ∙ (ap (λ (n : ℕ). (let k : Label = record { event = n; way = own.way.number - 1 } in k)) (sym own.is_event) ∙ sym b)

  edge_texts : (es : List Edge) → HaveOwnWays p es
      → edge_lines p es ≡ row_lines (naming_of_parts p) sys (map (edge_row (number_in p)) es)
  edge_texts [] own = refl
  edge_texts (e ∷ es) own =
      let i : way_label p e.way.n ≡ label_text (naming_of_parts p) sys (edge_row (number_in p) e).label =
      sym (label_alike p sys views e.way.n)
      ∙ ap (λ (k : Label). label_text (naming_of_parts p) sys k) (sym (same_label e (own.each e (one_first e es)))) in
      let j = edge_texts es (record { each = λ f o. own.each f (one_rest e es f o) }) in
      ap (λ z. edge_text (value_text p.symbols.items e.from) z (value_text p.symbols.items e.to) ++ edge_lines p es) i
      ∙ ap (λ z. edge_text (value_text p.symbols.items e.from)
      (label_text (naming_of_parts p) sys (edge_row (number_in p) e).label) (value_text p.symbols.items e.to) ++ z) j

  pub tree_texts : (ts : List ModeTree) → OwnTheirWays p ts
      → trees_text p ts ≡ tree_lines (naming_of_parts p) sys (map (tree_of (number_in p)) ts)
  tree_texts [] own = refl
  tree_texts (t ∷ ts) own =
      let root : List ℕ = root_text (text_at (naming_of_parts p).variables t.variable.n)
      (value_text p.symbols.items t.first) in
      let i = edge_texts t.edges.items (own.each t (one_first t ts)) in
      let j = tree_texts ts (record { each = λ u o. own.each u (one_rest t ts u o) }) in
      ap (λ z. (root ++ z) ++ trees_text p ts) i
      ∙ ap (λ z. (root ++ row_lines (naming_of_parts p) sys (map (edge_row (number_in p)) t.edges.items)) ++ z) j

-- the same trees over a system and its flat system
module _ {V : Type 0} (things : List V) (sys : System V) (flat : System ℕ) (is_flat : IsFlatOf things sys flat)
    (names : Naming) where
  label_same : (k : Label) → label_text names flat k ≡ label_text names sys k
  label_same k =
      ap (λ z. way_text (text_at names.events k.event) z k.way)
      (sym (ways_count (IsNumber things) is_flat.events k.event))

  rows_same : (rs : List Row) → row_lines names flat rs ≡ row_lines names sys rs
  rows_same [] = refl
  rows_same (r ∷ rs) =
      ap (λ z. edge_text (value_text names.symbols r.from) z (value_text names.symbols r.to) ++ row_lines names flat rs)
      (label_same r.label)
      ∙ ap (λ z. edge_text (value_text names.symbols r.from) (label_text names sys r.label)
      (value_text names.symbols r.to) ++ z) (rows_same rs)

  pub trees_same : (ts : List firing.ModeTree) → tree_lines names flat ts ≡ tree_lines names sys ts
  trees_same [] = refl
  trees_same (t ∷ ts) =
      let root : List ℕ = root_text (text_at names.variables t.variable) (value_text names.symbols t.first) in
      ap (λ z. (root ++ z) ++ tree_lines names flat ts) (rows_same t.edges)
      ∙ ap (λ z. (root ++ row_lines names sys t.edges) ++ z) (trees_same ts)

-- as many events as edges
pub events_counted : (number : ℕ → ℕ) (ts : List ModeTree)
    → length (events_of (map (tree_of number) ts)) ≡ edge_count ts
events_counted number [] = refl
events_counted number (t ∷ ts) =
    length-append (map event_of (map (edge_row number) t.edges.items)) (events_of (map (tree_of number) ts))
    ∙ (ap (λ z. z + length (events_of (map (tree_of number) ts)))
    (length-map (map (edge_row number) t.edges.items) event_of ∙ length-map t.edges.items (edge_row number))
    ∙ ap (λ z. length t.edges.items + z) (events_counted number ts))
