use Rattle.std.proofs.Common.{◌≡◌, ◌++◌, ◌<◌, ◌⊎◌, inl, inr, ℕ, zero, suc, Option, List, [], ◌∷◌, length, refl, sym, ◌∙◌, ap, subst, arith}
use Rattle.ar_base.specs.Lists.{IsOneOf}
use Rattle.ar_base.proofs.Standing.{one_here, one_first, one_rest, along_length, stands_within}
use Rattle.typed_expr.specs.PairsInside.{turned_pairs}
use Rattle.ar_meaning.specs.Systems.{System}
use Rattle.ar_meaning.specs.FlatOf.{IsNumber, IsFlatOf}
use Rattle.ar_meaning.specs.TraceText.{Naming}
use Rattle.ar_meaning.proofs.FlatSystems.{flat_back}
use Rattle.ar_firing.specs.Forest.{ModeTree, IsForest}
use Rattle.ar_firing.specs.Rules.{KeepsUpTo, IsLiveEvent}
use Rattle.ar_firing.proofs.ImageModes.{forest_there}
use Rattle.ar_firing.proofs.RulesHold.{asked_static}
use Rattle.ar_firing.proofs.Without.{no_more}
use Rattle.gts_core.specs.View.{Views}
use Rattle.gts_core.specs.declared.system.GtsParts.{GtsParts}
use Rattle.gts_core.proofs.Viewing.{keyed_by}
use Rattle.gts_flatten.specs.Flat.{naming_of}
use Rattle.hierarchy.specs.Listing.{variables}
use Rattle.mode_trees.specs.Views.{trees_of, number_in}
use Rattle.mode_trees.specs.declared.forests.Forest.{Forest}
use Rattle.cut_text.specs.ForestPrinted.{edge_count, trees_text}
use Rattle.cut_text.specs.ForestTexts.{tree_lines, events_line, AreLiveEvents}
use Rattle.cut_text.proofs.EdgeEvents.{events_of, are_live}
use Rattle.cut_text.proofs.SameLines.{tree_texts, trees_same, events_counted}
use Rattle.cut_text.proofs.LiveThere.{live_events_there}
use Rattle.cut_text.proofs.forest_laws.forests_of_the_source.Goals as goal

flat_live : (p : GtsParts) (flat : System ℕ) (views : Views p flat) (order : Option ℕ) (dropped : List ℕ) (f : Forest)
    → KeepsUpTo order flat dropped
    → IsForest flat dropped (trees_of (number_in p) f)
    → AreLiveEvents flat dropped (events_of (trees_of (number_in p) f))
flat_live p flat views order dropped f keeps is =
    are_live flat dropped (keyed_by p flat views) (asked_static order flat dropped keeps) (trees_of (number_in p) f) is

-- the numbers below one
numbers_below : ℕ → List ℕ
numbers_below zero = []
numbers_below (suc n) = n ∷ numbers_below n

many_below : (n : ℕ) → length (numbers_below n) ≡ n
unfolding numbers_below
many_below zero = refl
many_below (suc n) = ap suc (many_below n)

is_below : (n e : ℕ) → e < n → IsOneOf (numbers_below n) e
unfolding numbers_below
is_below zero e l = absurd (omega (arith, l))
is_below (suc n) e l =
    let cases : (e ≡ n) ⊎ (e < n) = grind (arith, l) in
    elim cases [
      | inl i ↦ subst (λ (z : ℕ). IsOneOf (n ∷ numbers_below n) z) (sym i) (one_first n (numbers_below n))
      | inr k ↦ one_rest n (numbers_below n) e (is_below n e k)
    ]

-- an event with a live edge is one of the system's
live_below : (p : GtsParts) (flat : System ℕ) → Views p flat → (dropped : List ℕ) (e : ℕ) → IsLiveEvent flat dropped e
    → e < length p.events.items
live_below p flat views dropped e h =
    let way = h.live.is_live.edge.is_open.is_kept.is_way in
    let inside = stands_within flat.events h.live.label.event way.event way.is_event in
    let long = along_length p.events.items flat.events views.events in
    omega (arith, inside, long, h.live.is_event)

pub returns-clause-few : goal.returns-clause-few
returns-clause-few c = λ p flat views order dropped f keeps is.
    let live = flat_live p flat views order dropped f keeps is in
    let all : List ℕ = events_of (trees_of (number_in p) f) in
    let n = length p.events.items in
    let fits = no_more all (numbers_below n) live.different
    (λ k e s. is_below n e (live_below p flat views dropped e (live.sound e (one_here all k e s)))) in
    omega (arith, fits, many_below n, events_counted (number_in p) f.trees.items)

pub returns-clause-text : goal.returns-clause-text
returns-clause-text c = λ x p flat of views order dropped f keeps is own.
    let things = variables x.declarations.model x.declarations.units in
    let same : of.flat ≡ flat = c.one_system.ensures.one p of.flat flat of.views views in
    let flat_of = subst (λ (z : System ℕ). IsFlatOf things x.system z) same of.is_flat in
    let trees : List ModeTree = trees_of (number_in p) f in
    let image = flat_back things x.system flat flat_of in
    let names : Naming = naming_of x.declarations in
    let text : trees_text p f.trees.items ≡ tree_lines names x.system trees =
    tree_texts p flat views f.trees.items own
    ∙ (ap (λ (z : Naming). tree_lines z flat trees) of.names ∙ trees_same things x.system flat flat_of names trees) in
    record {
      trees = trees;
      is_forest = forest_there (turned_pairs (IsNumber things)) flat x.system image dropped is;
      events = events_of trees;
      are_live = live_events_there things x.system flat flat_of dropped (events_of trees)
          (flat_live p flat views order dropped f keeps is);
      is_text = ap (λ z. z ++ events_line (edge_count f.trees.items)) text
          ∙ ap (λ z. tree_lines names x.system trees ++ events_line z)
          (sym (events_counted (number_in p) f.trees.items));
    }
