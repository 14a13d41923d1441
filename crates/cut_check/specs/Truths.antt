-- How far lines are fired, and which of them are true.
use Rattle.std.specs.Prelude.{ℕ, Bool, List, [], ◌∷◌, reverse}
use Rattle.ar_base.specs.Lists.{Stands}
use Rattle.ar_base.specs.Numbers.{WayId}
use Rattle.domains.specs.declared.Value.{Value}
use Rattle.typed_expr.specs.declared.expr.Expr.{Expr}
use Rattle.ar_meaning.specs.Found.{IsAnswer}
use Rattle.ar_meaning.specs.Runs.{Label, Start}
use Rattle.ar_meaning.specs.Steps.{Step, Next}
use Rattle.ar_meaning.specs.Systems.{System, Way}
use Rattle.ar_firing.specs.Fragment.{IsOpen}
use Rattle.gts_core.specs.declared.system.GtsParts.{GtsParts}
use Rattle.job_inputs.specs.Chains.{chain_labels}
use Rattle.stepper.specs.Steps.{Standing}
use Rattle.cut_check.specs.Verdicts.{IsTrueLine}

-- the run that starts and fires these labels of visible events that are not dropped, the last first, ends in this
-- valuation, and these stand below it
pub data EndsRunAt (sys : System ℕ) (dropped : List ℕ) : List Label → List Value → List (List Value) → Type 0 where
  start : {t : List Value} → Start sys.net t → EndsRunAt sys dropped [] t []
  fire : {ls : List Label} {t u : List Value} {below : List (List Value)} {l : Label} (w : Way ℕ)
      → EndsRunAt sys dropped ls t below
      → IsOpen sys dropped l w → Step sys.net t w (Next u) → EndsRunAt sys dropped (l ∷ ls) u (t ∷ below)

-- these ways are fired and stand
pub record HasFired (p : GtsParts) (sys : System ℕ) (dropped : List ℕ) (ways : List WayId) (at : Standing) : Type
    0 where
  pub stands : EndsRunAt sys dropped (reverse (chain_labels p ways)) at.values at.below

-- for each of these lines whether it is true
pub record AreTruths (sys : System ℕ) (dropped : List ℕ) (observer : Expr ℕ) (wanted : Value)
    (lines : List (List Label)) (truths : List Bool) : Type 0 where
  pub each : (n : ℕ) (ls : List Label) (b : Bool) → Stands lines n ls → Stands truths n b
      → IsAnswer b (IsTrueLine sys dropped observer wanted ls)
