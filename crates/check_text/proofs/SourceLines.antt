-- The lines and labels of the sets of a flat system are those of its source.
use Rattle.std.proofs.Common.{◌≡◌, ℕ, List, [], ◌∷◌, map, refl, sym, ◌∙◌, ap, subst}
use Rattle.ar_base.specs.Texts.{text_at}
use Rattle.typed_expr.specs.PairsInside.{turned_pairs}
use Rattle.ar_meaning.specs.Systems.{System}
use Rattle.ar_meaning.specs.FactsInside.{AreKeyed}
use Rattle.ar_meaning.specs.TraceText.{Naming, label_text, way_text}
use Rattle.ar_meaning.specs.FlatOf.{IsNumber, IsFlatOf}
use Rattle.ar_meaning.proofs.FlatSystems.{flat_back}
use Rattle.ar_meaning.proofs.ImageWays.{ways_count}
use Rattle.ar_firing.specs.Static.{IsStatic}
use Rattle.ar_firing.specs.Forest.{IsLine}
use Rattle.ar_firing.proofs.ImageModes.{line_there}
use Rattle.ar_firing.proofs.RulesHold.{asked_static}
use Rattle.gts_core.specs.View.{Views}
use Rattle.gts_core.specs.declared.system.GtsParts.{GtsParts}
use Rattle.gts_core.proofs.Viewing.{keyed_by}
use Rattle.gts_flatten.specs.Elaborating.{Elaborated}
use Rattle.gts_flatten.specs.Flat.{naming_of}
use Rattle.hierarchy.specs.Units.{Thing}
use Rattle.mode_trees.specs.Views.{trees_of}
use Rattle.mode_trees.specs.declared.forests.Edge.{Edge}
use Rattle.mode_trees.specs.declared.forests.Forest.{Forest}
use Rattle.min_cuts.specs.Lines.{IsInFiringOrder}
use Rattle.text_pieces.specs.WayLabels.{numbered_label, way_label}
use Rattle.text_pieces.proofs.Ways.{label_alike}
use Rattle.cut_text.specs.Printed.{forest_edges, way_in, labels_in, events_text, things_of, IsForestOf}
use Rattle.cut_text.specs.Texts.{braced, labels_text}
use Rattle.cut_text.proofs.FlatLines.{flat_line}

module _ (x : Elaborated) (p : GtsParts) (flat : System ℕ) (dropped : List ℕ) (f : Forest)
    (one : (a b : System ℕ) → Views p a → Views p b → a ≡ b) (h : IsForestOf x p flat dropped f) where
  abbrev things : List Thing
  things = things_of x

  abbrev names : Naming
  names = naming_of x.declarations

  abbrev edges : List Edge
  edges = forest_edges f.trees.items

  pub is_flat_of : IsFlatOf things x.system flat
  is_flat_of = subst (λ (z : System ℕ). IsFlatOf things x.system z)
      (one h.is_flat.flat flat h.is_flat.views h.views) h.is_flat.is_flat

  pub is_keyed : AreKeyed flat.net
  is_keyed = keyed_by p flat h.views

  pub is_static : IsStatic flat dropped
  is_static = asked_static h.order flat dropped h.keeps

  -- the line of a set
  flat_set : (set events : List ℕ) → IsInFiringOrder (trees_of (λ n. n) f) set events
      → IsLine flat dropped set (labels_in p edges events)
  flat_set set events g = flat_line p flat dropped is_keyed is_static f.trees.items h.own h.is_forest set events g

  pub source_set : (set events : List ℕ) → IsInFiringOrder (trees_of (λ n. n) f) set events
      → IsLine x.system dropped set (labels_in p edges events)
  source_set set events g =
      line_there (turned_pairs (IsNumber things)) flat x.system (flat_back things x.system flat is_flat_of) dropped
      (flat_set set events g)

  -- the labels
  label_is : (n : ℕ) → way_label p n ≡ label_text names x.system (numbered_label p n)
  label_is n =
      sym (label_alike p flat h.views n)
      ∙ ap (λ (z : Naming). label_text z flat (numbered_label p n)) h.is_flat.names
      ∙ ap (λ (z : ℕ). way_text (text_at names.events (numbered_label p n).event) z (numbered_label p n).way)
      (sym (ways_count (IsNumber things) is_flat_of.events (numbered_label p n).event))

  labels_are : (events : List ℕ)
      → map (λ e. way_label p (way_in edges e)) events ≡ map (label_text names x.system) (labels_in p edges events)
  labels_are [] = refl
  labels_are (e ∷ es) =
      ap (λ (z : List ℕ). z ∷ map (λ e. way_label p (way_in edges e)) es) (label_is (way_in edges e))
      ∙ ap (λ (z : List (List ℕ)). label_text names x.system (numbered_label p (way_in edges e)) ∷ z) (labels_are es)

  pub text_is : (events : List ℕ) → events_text p edges events ≡ labels_text names x.system (labels_in p edges events)
  text_is events = ap braced (labels_are events)
