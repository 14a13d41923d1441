-- What is printed by the parts of a flat system is the text of its source.
use Rattle.std.proofs.Common.{◌≡◌, ◌-◌, ◌^◌, min, codes, decimal, ℕ, Option, List, [], ◌∷◌, ◌++◌, map, reverse, length, refl, sym, ◌∙◌, ap, subst, arith}
use Rattle.domains.specs.declared.Value.{Value}
use Rattle.ar_base.specs.Lists.{Along}
use Rattle.ar_base.specs.Lists as l
use Rattle.ar_base.specs.Texts.{line, text_at}
use Rattle.typed_expr.specs.PairsInside.{turned_pairs}
use Rattle.typed_expr.specs.Yields.{Yields}
use Rattle.typed_expr.specs.declared.expr.Expr.{Expr, out-Expr}
use Rattle.ar_meaning.specs.Systems.{System}
use Rattle.ar_meaning.specs.Facts.{HasValue}
use Rattle.ar_meaning.specs.FactsInside.{AreKeyed}
use Rattle.ar_meaning.specs.Flows.{FlowFault}
use Rattle.ar_meaning.specs.Runs.{Label}
use Rattle.ar_meaning.specs.TraceText.{Naming, label_text, way_text, flow_fault_text}
use Rattle.ar_meaning.specs.FlatOf.{IsNumber, IsFlatOf}
use Rattle.ar_meaning.specs.Image.{Expr_renames}
use Rattle.typed_expr.proofs.Renaming.{carries, renames_turned}
use Rattle.ar_meaning.proofs.ImageFlows.{value_there}
use Rattle.ar_meaning.proofs.FlatSystems.{flat_image, flat_back}
use Rattle.ar_meaning.proofs.ImageWays.{ways_count}
use Rattle.ar_firing.specs.Static.{IsStatic}
use Rattle.ar_firing.specs.Cuts.{Reaches, Conflicts, Makes, Cut, ConflictSet}
use Rattle.ar_firing.specs.Forest.{IsLine}
use Rattle.ar_firing.specs.Listed.{AreListed}
use Rattle.firable_families.specs.Firable.{AndUpTo}
use Rattle.ar_firing.proofs.ImageCuts.{reaches_there, conflicts_there, makes_there, cut_there, cut_back, conflict_set_there}
use Rattle.ar_firing.proofs.ImageModes.{line_there}
use Rattle.ar_firing.proofs.OneListing.{listed_as}
use Rattle.ar_firing.proofs.OrderedSets.{undropped}
use Rattle.ar_firing.proofs.RulesHold.{asked_static}
use Rattle.gts_core.specs.View.{Views}
use Rattle.gts_core.specs.declared.system.GtsParts.{GtsParts}
use Rattle.gts_core.proofs.Viewing.{keyed_by}
use Rattle.gts_flatten.specs.Elaborating.{Elaborated}
use Rattle.gts_flatten.specs.Flat.{naming_of, naming_of_parts}
use Rattle.hierarchy.specs.Units.{Thing}
use Rattle.mode_trees.specs.Views.{trees_of}
use Rattle.mode_trees.specs.declared.forests.Edge.{Edge}
use Rattle.mode_trees.specs.declared.forests.Forest.{Forest}
use Rattle.min_cuts.specs.Lines.{IsInFiringOrder, AreInFiringOrder}
use Rattle.min_cuts.specs.Sizes.{count}
use Rattle.text_pieces.specs.WayLabels.{numbered_label, way_label}
use Rattle.text_pieces.proofs.Ways.{label_alike}
use Rattle.cut_text.specs.Printed.{forest_edges, way_in, labels_in, events_text, sets_text, cuts_text, conflict_text, things_of, IsForestOf}
use Rattle.cut_text.specs.Texts.{braced, labels_text, label_lists, count_line, fault_line, order_end, IsCutText, IsConflictText}
use Rattle.cut_text.proofs.UpToOrder.{has_other}
use Rattle.cut_text.proofs.FlatLines.{flat_line}

-- a count that was cut off has the same line
counted : (order : Option ℕ) (n : ℕ) → count_line order (min n (2 ^ 128 - 1)) ≡ count_line order n
counted order n =
    let e : min (min n (2 ^ 128 - 1)) (2 ^ 128 - 1) ≡ min n (2 ^ 128 - 1) = omega arith in
    ap (λ (z : ℕ). codes "count " ++ (decimal z ++ order_end order)) e

module _ (x : Elaborated) (p : GtsParts) (flat : System ℕ) (dropped : List ℕ) (f : Forest)
    (one : (a b : System ℕ) → Views p a → Views p b → a ≡ b) (h : IsForestOf x p flat dropped f) where
  abbrev things : List Thing
  things = things_of x

  abbrev names : Naming
  names = naming_of x.declarations

  abbrev edges : List Edge
  edges = forest_edges f.trees.items

  pub is_flat_of : IsFlatOf things x.system flat
  is_flat_of = subst (λ (z : System ℕ). IsFlatOf things x.system z)
      (one h.is_flat.flat flat h.is_flat.views h.views) h.is_flat.is_flat

  pub is_keyed : AreKeyed flat.net
  is_keyed = keyed_by p flat h.views

  pub is_static : IsStatic flat dropped
  is_static = asked_static h.order flat dropped h.keeps

  -- the line of a set
  flat_set : (set events : List ℕ) → IsInFiringOrder (trees_of (λ n. n) f) set events
      → IsLine flat dropped set (labels_in p edges events)
  flat_set set events g = flat_line p flat dropped is_keyed is_static f.trees.items h.own h.is_forest set events g

  source_set : (set events : List ℕ) → IsInFiringOrder (trees_of (λ n. n) f) set events
      → IsLine x.system dropped set (labels_in p edges events)
  source_set set events g =
      line_there (turned_pairs (IsNumber things)) flat x.system (flat_back things x.system flat is_flat_of) dropped
      (flat_set set events g)

  lines_of : {sets lists : List (List ℕ)} → AreInFiringOrder (trees_of (λ n. n) f) sets lists
      → Along (IsLine x.system dropped) sets (map (labels_in p edges) lists)
  lines_of l.none = l.none
  lines_of (l.one_and {a = s} {b = es} r rs) = l.one_and (source_set s es r) (lines_of rs)

  -- the labels
  label_is : (n : ℕ) → way_label p n ≡ label_text names x.system (numbered_label p n)
  label_is n =
      sym (label_alike p flat h.views n)
      ∙ ap (λ (z : Naming). label_text z flat (numbered_label p n)) h.is_flat.names
      ∙ ap (λ (z : ℕ). way_text (text_at names.events (numbered_label p n).event) z (numbered_label p n).way)
      (sym (ways_count (IsNumber things) is_flat_of.events (numbered_label p n).event))

  labels_are : (events : List ℕ)
      → map (λ e. way_label p (way_in edges e)) events ≡ map (label_text names x.system) (labels_in p edges events)
  labels_are [] = refl
  labels_are (e ∷ es) =
      ap (λ (z : List ℕ). z ∷ map (λ e. way_label p (way_in edges e)) es) (label_is (way_in edges e))
      ∙ ap (λ (z : List (List ℕ)). label_text names x.system (numbered_label p (way_in edges e)) ∷ z) (labels_are es)

  text_is : (events : List ℕ) → events_text p edges events ≡ labels_text names x.system (labels_in p edges events)
  text_is events = ap braced (labels_are events)

  texts_are : (lists : List (List ℕ)) → sets_text p edges lists ≡ label_lists names x.system
      (map (labels_in p edges) lists)
  texts_are [] = refl
  texts_are (es ∷ more) =
      ap (λ (z : List ℕ). line z ++ sets_text p edges more) (text_is es)
      ∙ ap (λ (z : List ℕ). line (labels_text names x.system (labels_in p edges es)) ++ z) (texts_are more)

  -- the cuts
  module _ (observer : Expr Thing) (other : Expr ℕ) (q : Expr_renames (IsNumber things) observer other)
      (wanted : Value) where
    pub cut_text : (order : Option ℕ) (sets lists : List (List ℕ))
        → AreListed (AndUpTo order (Cut flat dropped other wanted)) sets
        → AreInFiringOrder (trees_of (λ n. n) f) sets lists
        → IsCutText order names x.system dropped observer wanted (cuts_text p edges order lists (count sets))
    cut_text order sets lists listed g = record {
      sets = sets;
      are_listed = listed_as
          (has_other order (Cut flat dropped other wanted) (Cut x.system dropped observer wanted)
          (λ s c. cut_back (IsNumber things) x.system flat (flat_image things x.system flat is_flat_of) dropped
          observer other q wanted s c))
          (has_other order (Cut x.system dropped observer wanted) (Cut flat dropped other wanted)
          (λ s c. cut_there (IsNumber things) x.system flat
          (flat_image things x.system flat is_flat_of) dropped observer other q wanted s c))
          listed;
      lines = map (labels_in p edges) lists;
      are_lines = lines_of g;
      is_text = ap (λ (z : List ℕ). z ++ count_line order (count sets)) (texts_are lists)
          ∙ ap (λ (z : List ℕ). label_lists names x.system (map (labels_in p edges) lists) ++ z)
          (counted order (length sets));
    }

    -- a line of the source's cut replays
    pub replays : (set : List ℕ) → ((ls : List Label) → Makes flat dropped other wanted set → IsLine flat dropped set ls
        → (t : List Value) × Reaches flat dropped (reverse ls) t × Yields (HasValue flat.net t)
        (out-Expr ℕ other) wanted)
        → (ls : List Label) → Makes x.system dropped observer wanted set → IsLine x.system dropped set ls
        → (t : List Value) × Reaches x.system dropped (reverse ls) t × Reaches x.system [] (reverse ls) t
        × Yields (HasValue x.system.net t) (out-Expr Thing observer) wanted
    replays set flat_replays ls m is =
        let there = flat_image things x.system flat is_flat_of in
        let flat_is = line_there (IsNumber things) x.system flat there dropped is in
        let r = flat_replays ls (makes_there (IsNumber things) x.system flat there dropped observer other q wanted
        set m) flat_is in
        let back = flat_back things x.system flat is_flat_of in
        let reaches = reaches_there (turned_pairs (IsNumber things)) flat x.system back dropped r.1 in
        let shows =
        carries ℕ Thing (HasValue flat.net r.0) (HasValue x.system.net r.0) (turned_pairs (IsNumber things))
        (λ a b v s k. value_there (turned_pairs (IsNumber things)) flat.net x.system.net back.net r.0 a b v s k) r.2
        (renames_turned (IsNumber things) q.renames) in
        (r.0, reaches, undropped x.system dropped reaches, shows)

  -- the conflict
  pub first_line : (set : List ℕ) (sets : List (List ℕ)) (events : List ℕ) (lists : List (List ℕ))
      → AreInFiringOrder (trees_of (λ n. n) f) (set ∷ sets) (events ∷ lists) → IsLine flat dropped set
      (labels_in p edges events)
  first_line set sets events lists (l.one_and r rs) = flat_set set events r

  pub conflict_is : (order : Option ℕ) (set : List ℕ) (sets : List (List ℕ)) (events : List ℕ) (lists : List (List ℕ))
      (fault : FlowFault)
      → AreListed (AndUpTo order (ConflictSet flat dropped)) (set ∷ sets) → AreInFiringOrder (trees_of (λ n. n) f) (set ∷ sets)
      (events ∷ lists)
      → Conflicts flat dropped (reverse (labels_in p edges events)) fault
      → IsConflictText order names x.system dropped (conflict_text p edges events fault)
  conflict_is order set sets events lists fault listed g k =
      let there = flat_image things x.system flat is_flat_of in
      let back = flat_back things x.system flat is_flat_of in
      record {
        set = set;
        later = sets;
        are_listed = listed_as
            (has_other order (ConflictSet flat dropped) (ConflictSet x.system dropped)
            (λ s c. conflict_set_there (turned_pairs (IsNumber things)) flat x.system back dropped s c))
            (has_other order (ConflictSet x.system dropped) (ConflictSet flat dropped)
            (λ s c. conflict_set_there (IsNumber things) x.system flat there dropped s c))
            listed;
        labels = labels_in p edges events;
        is_line = line_there (turned_pairs (IsNumber things)) flat x.system back dropped (first_line set sets events lists g);
        fault = fault;
        conflicts = conflicts_there (turned_pairs (IsNumber things)) flat x.system back dropped k;
        is_text = ap (λ (z : List ℕ). fault_line z (flow_fault_text (naming_of_parts p) fault)) (text_is events)
            ∙ ap (λ (z : Naming). fault_line (labels_text names x.system (labels_in p edges events))
            (flow_fault_text z fault)) h.is_flat.names;
      }
