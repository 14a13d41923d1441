-- How long the lists of values are that come of a step.
use Rattle.std.proofs.Common.{◌≡◌, suc, List, [], ◌∷◌, length, refl, ap}
use Rattle.domains.specs.declared.Value.{Value}
use Rattle.ar_meaning.specs.Systems.{Variable, Way, Net}
use Rattle.ar_meaning.specs.Flows.{Completes, state, known, unknown, Flows, Total, all_hold}
use Rattle.ar_meaning.specs.Flows as flows
use Rattle.ar_meaning.specs.Steps.{Receives, changed, kept, Next, Step, moves}
use Rattle.ar_meaning.specs.Steps as r
use Rattle.ar_meaning.specs.Runs.{first_values}

module _ {V : Type 0} where
  pub received_long : {effects : V → Value → Type 0} {xs : List (Variable V)} {vs ws : List Value}
      → Receives effects xs vs ws → length ws ≡ length xs
  received_long r.none = refl
  received_long (changed h d) = ap suc (received_long d)
  received_long (kept h d) = ap suc (received_long d)

  pub completed_long : {facts : V → Value → Type 0} {xs : List (Variable V)} {vs ws : List Value}
      → Completes facts xs vs ws → length ws ≡ length xs
  completed_long flows.none = refl
  completed_long (state h d) = ap suc (completed_long d)
  completed_long (known h p d) = ap suc (completed_long d)
  completed_long (unknown h p d) = ap suc (completed_long d)

  -- a total valuation has a value for each variable
  pub total_long : {net : Net V} {t u : List Value} → Flows net t (Total u) → length u ≡ length net.variables
  total_long (all_hold n m c b) = completed_long c

  pub step_long : {net : Net V} {t u : List Value} {w : Way V} → Step net t w (Next u) → length u ≡ length net.variables
  step_long (moves s c n m h f) = total_long f

  pub first_long : (xs : List (Variable V)) → length (first_values xs) ≡ length xs
  first_long [] = refl
  first_long (x ∷ xs) = ap suc (first_long xs)
