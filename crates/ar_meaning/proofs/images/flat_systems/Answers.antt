use Rattle.ar_meaning.proofs.FlatSystems.{flat_image, flat_back, names_back, keyed_there, numbers_there, numbers_back, copied_system, copied_events}
use Rattle.ar_meaning.proofs.ImageBoth.{same_facts, same_flows, same_ways, same_effects, same_steps, same_runs}
use Rattle.ar_meaning.proofs.ImageTexts.{trace_there}
use Rattle.ar_meaning.specs.FlatOf.{IsNumber}
use Rattle.typed_expr.specs.PairsInside.{turned_pairs}
use Rattle.ar_base.proofs.Standing.{stands_one}
use Rattle.ar_meaning.specs.Image.{Transition_renames}
use Rattle.ar_meaning.proofs.ImageTurned.{along_turned}
use Rattle.ar_meaning.proofs.ImageWays.{ways_along, ways_back, leads_there, leads_back, events_along, events_back, keyed_back, declared_turned}
use Rattle.ar_meaning.proofs.images.flat_systems.Goals as goal

pub returns-clause-facts : goal.returns-clause-facts
returns-clause-facts g c =
    λ things sys flat f. same_facts (IsNumber things) sys.net flat.net (flat_image things sys flat f).net

pub returns-clause-flows : goal.returns-clause-flows
returns-clause-flows g c =
    λ things sys flat f. same_flows (IsNumber things) sys.net flat.net (flat_image things sys flat f).net

pub returns-clause-flat_ways : goal.returns-clause-flat_ways
returns-clause-flat_ways g c =
    λ things sys flat f. same_ways (IsNumber things) sys.net flat.net (flat_image things sys flat f).net

pub returns-clause-effects : goal.returns-clause-effects
returns-clause-effects g c =
    λ things sys flat f. same_effects (IsNumber things) sys.net flat.net (flat_image things sys flat f).net

pub returns-clause-steps : goal.returns-clause-steps
returns-clause-steps g c =
    λ things sys flat f. same_steps (IsNumber things) sys.net flat.net (flat_image things sys flat f).net

pub returns-clause-runs : goal.returns-clause-runs
returns-clause-runs g c = λ things sys flat f. same_runs (IsNumber things) sys flat (flat_image things sys flat f)

pub returns-clause-texts : goal.returns-clause-texts
returns-clause-texts g c = λ things sys flat f names numbers alike ms text. (
  λ d. trace_there (IsNumber things) sys flat (flat_image things sys flat f) names numbers alike d,
  λ d. trace_there (turned_pairs (IsNumber things)) flat sys (flat_back things sys flat f) numbers names
      (names_back names numbers alike) d,
)

pub returns-clause-flat_keys : goal.returns-clause-flat_keys
returns-clause-flat_keys g c = λ things sys flat f. (
  λ k. keyed_there (IsNumber things) sys.net flat.net (flat_image things sys flat f).net k,
  λ k. keyed_there (turned_pairs (IsNumber things)) flat.net sys.net (flat_back things sys flat f).net k,
)

pub returns-clause-numbers : goal.returns-clause-numbers
returns-clause-numbers g c =
    λ things sys flat f. (λ k. numbers_there things sys flat f k, λ k. numbers_back things sys flat f k)

pub returns-clause-declared_ways : goal.returns-clause-declared_ways
returns-clause-declared_ways g c =
    λ things keys ds es f e n s vs w. ways_along (Transition_renames (IsNumber things)) (IsNumber keys) ds es f.events
    (λ x m n r s. f.different.one m n x r s) s w

pub returns-clause-declared_ways_back : goal.returns-clause-declared_ways_back
returns-clause-declared_ways_back g c =
    λ things keys ds es f e n s ws w. ways_back (Transition_renames (IsNumber things)) (IsNumber keys) ds es f.events
    (λ x y n r s. stands_one keys n x y r s) s w

pub returns-clause-declared_events : goal.returns-clause-declared_events
returns-clause-declared_events g c =
    λ things keys ds es f vs x. events_along (IsNumber things) (IsNumber keys) ds es f.events
    (λ x m n r s. f.different.one m n x r s) f.events x

pub returns-clause-declared_events_back : goal.returns-clause-declared_events_back
returns-clause-declared_events_back g c =
    λ things keys ds es f ws x. events_back (IsNumber things) (IsNumber keys) ds es f.events
    (λ x y n r s. stands_one keys n x y r s) x

pub returns-clause-declared_leads_back : goal.returns-clause-declared_leads_back
returns-clause-declared_leads_back g c = λ things keys ds es f e n k s. (
  λ h. leads_there (Transition_renames (IsNumber things)) (IsNumber keys) ds es f.events
      (λ x m n r s. f.different.one m n x r s) s h,
  λ h. leads_back (Transition_renames (IsNumber things)) (IsNumber keys) ds es f.events
      (λ x y n r s. stands_one keys n x y r s) s h,
)

pub returns-clause-declared_keys : goal.returns-clause-declared_keys
returns-clause-declared_keys g c = λ things keys ds es f. (
  λ k. keyed_back (turned_pairs (Transition_renames (IsNumber things))) (turned_pairs (IsNumber keys)) es ds
      (along_turned (declared_turned (Transition_renames (IsNumber things)) (IsNumber keys)) f.events)
      (λ n x y r s. stands_one keys n x y r s) k,
  λ k. keyed_back (Transition_renames (IsNumber things)) (IsNumber keys) ds es f.events
      (λ x m n r s. f.different.one m n x r s) k,
)

pub returns-clause-copied_systems : goal.returns-clause-copied_systems
returns-clause-copied_systems g c = λ things sys flat other f k. copied_system things sys flat other f k

pub returns-clause-copied_declarations : goal.returns-clause-copied_declarations
returns-clause-copied_declarations g c = λ things keys ds es fs f k. copied_events things keys ds es fs f k
