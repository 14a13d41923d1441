-- In a static system that is free of conflicts the sets with an order are the firable sets.
use Rattle.std.proofs.Common.{◌⊎◌, inl, inr, ⊎_elim, ℕ, List, []}
use Rattle.domains.specs.declared.Value.{Value}
use Rattle.ar_meaning.specs.Systems.{System}
use Rattle.ar_meaning.specs.FactsInside.{AreKeyed}
use Rattle.ar_meaning.specs.Runs.{Label}
use Rattle.ar_meaning.specs.Flows.{Flows, Outcome, Fails, Total}
use Rattle.ar_meaning.specs.FoundInside.{AreTold}
use Rattle.ar_meaning.proofs.Outcomes.{has_outcome}
use Rattle.ar_firing.specs.Static.{IsStatic}
use Rattle.ar_base.specs.Sets.{Within}
use Rattle.ar_firing.specs.Cuts.{Reaches, start, fire, HasOrder, IsFirable, MeetsConflict, IsConflictFree}
use Rattle.ar_firing.specs.Operands.{HasFlows, HasFault}
use Rattle.ar_firing.proofs.Firing.{all_firable}
use Rattle.ar_firing.proofs.EachHasOrder.{has_order}
use Rattle.ar_firing.proofs.SameSets.{firable_as, events_within, set_within}

-- what fires with events dropped fires without
pub undropped : {V : Type 0} (sys : System V) (dropped : List ℕ) {ls : List Label} {t : List Value}
    → Reaches sys dropped ls t → Reaches sys [] ls t
undropped sys dropped (start f) = start f
undropped sys dropped (fire w r o s) =
    fire w (undropped sys dropped r)
    (record { is_kept = record { is_way = o.is_kept.is_way; stays = λ i. let h = i.stands in cc }; visible = o.visible }) s

module _ {V : Type 0} (sys : System V) (dropped : List ℕ) (keyed : AreKeyed sys.net)
    (static : IsStatic sys dropped) where
  pub order_is_firable : {set : List ℕ} {t : List Value} → HasOrder sys dropped set t → IsFirable sys dropped set t
  order_is_firable {set = set} o =
      firable_as sys dropped (events_within o.labels set o.events) (set_within o.labels set o.events)
      (all_firable sys dropped keyed static o.reaches)

  -- where no set within this one meets a conflict
  pub has_order_within : {set : List ℕ} {t : List Value}
      → ((part : List ℕ) → Within part set → MeetsConflict sys dropped part → ⊥)
      → ((set : List ℕ) (t : List Value) → IsFirable sys dropped set t → HasFlows sys.net t ⊎ HasFault sys.net t)
      → IsFirable sys dropped set t → (u : List Value) × HasOrder sys dropped set u
  has_order_within {set = set} free known f =
      has_order sys dropped keyed static set
      (λ part u h w met. ⊎_elim (λ k. k) (λ k. let m = met k.fault k.flows in absurd (free m.0 m.1 m.2)) (known part u h))
      f (record { each = λ e o. o })

  pub firable_has_order : IsConflictFree sys dropped
      → ((set : List ℕ) (t : List Value) → IsFirable sys dropped set t → HasFlows sys.net t ⊎ HasFault sys.net t)
      → {set : List ℕ} {t : List Value} → IsFirable sys dropped set t → (u : List Value) × HasOrder sys dropped set u
  firable_has_order free known f = has_order_within (λ part w m. free part m) known f

  -- the flows of a firable set are there, or a fault
  pub flows_told : AreTold V → (set : List ℕ) (t : List Value) → IsFirable sys dropped set t
      → HasFlows sys.net t ⊎ HasFault sys.net t
  flows_told told set t f = go (has_outcome told sys.net t f.long)
    where
      go : (o : Outcome) × Flows sys.net t o → HasFlows sys.net t ⊎ HasFault sys.net t
      go (Total u, h) = inl (record { values = u; flows = h })
      go (Fails f, h) = inr (record { fault = f; flows = h })

  pub told_has_order : AreTold V → IsConflictFree sys dropped → {set : List ℕ} {t : List Value}
      → IsFirable sys dropped set t → (u : List Value) × HasOrder sys dropped set u
  told_has_order told free f = firable_has_order free (flows_told told) f
