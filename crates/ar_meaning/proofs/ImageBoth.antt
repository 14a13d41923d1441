-- A system and its image answer alike, both ways.
use Rattle.std.proofs.Common.{◌↔◌, List}
use Rattle.domains.specs.declared.Value.{Value}
use Rattle.typed_expr.specs.PairsInside.{turned_pairs}
use Rattle.ar_meaning.specs.Systems.{Net, System, Way}
use Rattle.ar_meaning.specs.Facts.{HasValue, FactOf}
use Rattle.ar_meaning.specs.Flows.{Outcome, Flows}
use Rattle.ar_meaning.specs.Ways.{Can, Effects}
use Rattle.ar_meaning.specs.Steps.{Answer, Step}
use Rattle.ar_meaning.specs.Runs.{Command, Moment, Runs}
use Rattle.ar_meaning.specs.Image.{Way_renames}
use Rattle.ar_meaning.specs.ImageInside.{IsNetImage, IsImage}
use Rattle.ar_meaning.proofs.ImageTurned.{net_turned, image_turned, way_turned}
use Rattle.ar_meaning.proofs.ImageFlows.{value_there, fact_there, can_there, effects_there, flows_there, step_there}
use Rattle.ar_meaning.proofs.ImageRuns.{runs_there}

module _ {V W : Type 0} (same : V → W → Type 0) (here : Net V) (there : Net W)
    (image : IsNetImage same here there) where
  pub same_facts : (t : List Value) (x : V) (y : W) (v : Value) → same x y → FactOf here t x v ↔ FactOf there t y v
  same_facts t x y v s = (
    fact_there same here there image t x y v s,
    fact_there (turned_pairs same) there here (net_turned same image) t y x v
        s,
  )

  pub same_flows : (t : List Value) (o : Outcome) → Flows here t o ↔ Flows there t o
  same_flows t o =
      (λ f. flows_there same here there image f, λ f. flows_there (turned_pairs same) there here (net_turned same image) f)

  pub same_ways : (t : List Value) (v : Way V) (w : Way W) → Way_renames same v w
      → Can (HasValue here t) v ↔ Can (HasValue there t) w
  same_ways t v w q =
      let behind = net_turned same image in (
        λ c. can_there V W (HasValue here t) (HasValue there t) same
            (λ x y d s h. value_there same here there image t x y d s h) image.one q c,
        λ c. can_there W V (HasValue there t) (HasValue here t) (turned_pairs same)
            (λ y x d s h. value_there (turned_pairs same) there here behind t y x d s h) behind.one (way_turned same q) c,
      )

  pub same_effects : (t : List Value) (v : Way V) (w : Way W) → Way_renames same v w → (x : V) (y : W) (d : Value)
      → same x y → Effects (HasValue here t) v x d ↔ Effects (HasValue there t) w y d
  same_effects t v w q x y d s =
      let behind = net_turned same image in (
        λ e. effects_there V W (HasValue here t) (HasValue there t) same
            (λ x y d s h. value_there same here there image t x y d s h) image.one q s e,
        λ e. effects_there W V (HasValue there t) (HasValue here t) (turned_pairs same)
            (λ y x d s h. value_there (turned_pairs same) there here behind t y x d s h) behind.one (way_turned same q) s e,
      )

  pub same_steps : (t : List Value) (v : Way V) (w : Way W) → Way_renames same v w → (a : Answer)
      → Step here t v a ↔ Step there t w a
  same_steps t v w q a = (
    λ s. step_there same here there image q s,
    λ s. step_there (turned_pairs same) there here (net_turned same image)
        (way_turned same q) s,
  )

pub same_runs : {V W : Type 0} (same : V → W → Type 0) (here : System V) (there : System W) → IsImage same here there
    → (cs : List Command) (ms : List Moment) → Runs here cs ms ↔ Runs there cs ms
same_runs same here there image cs ms =
    (λ r. runs_there same here there image r, λ r. runs_there (turned_pairs same) there here (image_turned same image) r)
