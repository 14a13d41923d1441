-- The valuations of a run are total.
use Rattle.std.proofs.Common.{◌≡◌, ◌+◌, ◌⊎◌, ℕ, zero, suc, List, [], ◌∷◌, ◌∙◌, subst, inl, inr, arith}
use Rattle.ar_base.specs.Lists.{Stands}
use Rattle.ar_base.proofs.Standing.{stands_none}
use Rattle.domains.specs.Domains.{Holds}
use Rattle.domains.specs.declared.Value.{Value}
use Rattle.domains.proofs.Domains.{held}
use Rattle.typed_expr.proofs.Listing.{contains_told}
use Rattle.ar_meaning.specs.Systems as s
use Rattle.ar_meaning.specs.Facts.{HasValue}
use Rattle.ar_meaning.specs.Runs.{Start}
use Rattle.ar_meaning.specs.Steps.{Receives, changed, kept, Next, Step, moves}
use Rattle.ar_meaning.specs.Steps as steps
use Rattle.ar_meaning.specs.Ways.{Effects}
use Rattle.ar_meaning.proofs.Lengths.{received_long}
use Rattle.flow_propagate.specs.Answers.{IsState}
use Rattle.gts_core.specs.View.{net_of, variable_of, variables_from}
use Rattle.gts_core.specs.Sound.{IsSound}
use Rattle.gts_core.specs.Readings.{IsTotal}
use Rattle.gts_core.specs.declared.system.GtsParts.{GtsParts}
use Rattle.gts_core.specs.declared.system.Variable.{Variable}
use Rattle.gts_core.proofs.Viewing.{variable_there, variables_long}
use Rattle.flow_propagate.proofs.Determining.{flows_total}
use Rattle.stepper.proofs.Totals.{first_state}

-- a variable's value after a step is received, or its own
received_each : (E : ℕ → Value → Type 0) (k : ℕ) (xs : List Variable) (vs ws : List Value)
    → Receives E (variables_from k xs) vs ws
    → (n m : ℕ) (x : Variable) (w : Value) → m ≡ k + n → Stands xs n x → Stands ws n w → E m w ⊎ Stands vs n w
received_each E k [] vs ws steps.none n m x w e s h = absurd (stands_none n x s)
received_each E k (y ∷ xs) vs ws (changed {w = u} f d) zero m x w e s h =
    let value : u ≡ w = cc in
    let number : k ≡ m = omega (arith, e) in
    inl (subst (λ (z : ℕ). E z w) number (subst (λ (z : Value). E k z) value f))
received_each E k (y ∷ xs) vs ws (changed {vs = us} {ws = ts} f d) (suc n) m x w e s h =
    received_each E (k + 1) xs us ts d n m x w (omega (arith, e)) s h
received_each E k (y ∷ xs) vs ws (kept none d) zero m x w e s h = inr h
received_each E k (y ∷ xs) vs ws (kept {vs = us} {ws = ts} none d) (suc n) m x w e s h =
    received_each E (k + 1) xs us ts d n m x w (omega (arith, e)) s h

module _ (p : GtsParts) (sound : IsSound p) where
  -- what a step leads to is total
  pub step_total : (t u : List Value) (w : s.Way ℕ) → IsTotal p t → Step (net_of p) t w (Next u) → IsTotal p u
  step_total t u w total (moves state can no_clash no_range receives flows) =
      flows_total p sound state u after flows
    where
      effects : ℕ → Value → Type 0
      effects = Effects (HasValue (net_of p) t) w

      inside : (n : ℕ) (x : Variable) (v : Value) → Stands p.variables.items n x
          → Effects (HasValue (net_of p) t) w n v ⊎ Stands t n v
          → Holds x.domain v
      inside n x v st (inr h) = total.in_domain n x v st h
      inside n x v st (inl f) = elim (contains_told (variable_of n x).domain v) [
        | inl c ↦ held x.domain v (sound.variables n x st).domain c
        | inr not ↦ absurd (no_range.has_not n (variable_of n x) (variable_there p n x st)
            (record { value = v; received = f; outside = not }))
      ]

      after : IsState p state
      after = record {
        long = received_long receives ∙ variables_long 0 p.variables.items;
        in_domain = λ n x v st i h. inside n x v st
            (received_each (Effects (HasValue (net_of p) t) w) 0 p.variables.items t state receives n n x v
            (omega arith) st h);
      }

  -- a run starts with a total valuation
  pub start_total : (t : List Value) → Start (net_of p) t → IsTotal p t
  start_total t starts = flows_total p sound _ t (first_state p sound) starts
