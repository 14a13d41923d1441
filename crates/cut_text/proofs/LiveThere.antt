-- A system and a flat system of it have the same events with a live edge.
use Rattle.std.proofs.Common.{ℕ, List}
use Rattle.typed_expr.specs.PairsInside.{turned_pairs}
use Rattle.ar_meaning.specs.Systems.{System}
use Rattle.ar_meaning.specs.ImageInside.{IsImage}
use Rattle.ar_meaning.specs.FlatOf.{IsNumber, IsFlatOf}
use Rattle.ar_meaning.proofs.FlatSystems.{flat_image, flat_back}
use Rattle.ar_firing.specs.Rules.{IsLiveEvent}
use Rattle.ar_firing.proofs.ImageModes.{live_there}
use Rattle.cut_text.specs.ForestTexts.{AreLiveEvents}

live_event_there : {V W : Type 0} (same : V → W → Type 0) (here : System V) (there : System W) → IsImage same here there
    → (dropped : List ℕ) (e : ℕ) → IsLiveEvent here dropped e → IsLiveEvent there dropped e
live_event_there same here there image dropped e h = record {
  number = h.number;
  live = record {
    label = h.live.label;
    is_event = h.live.is_event;
    from = h.live.from;
    to = h.live.to;
    is_live = live_there same here there image dropped h.live.is_live;
  };
}

pub live_events_there : {V : Type 0} (things : List V) (sys : System V) (flat : System ℕ) → IsFlatOf things sys flat
    → (dropped events : List ℕ) → AreLiveEvents flat dropped events → AreLiveEvents sys dropped events
live_events_there things sys flat of dropped events live = record {
  sound = λ e o. live_event_there (turned_pairs (IsNumber things)) flat sys (flat_back things sys flat of) dropped e
      (live.sound e o);
  whole = λ e h. live.whole e (live_event_there (IsNumber things) sys flat (flat_image things sys flat of) dropped e h);
  different = live.different;
}
