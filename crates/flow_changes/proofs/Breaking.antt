-- Assignments that hold under a total valuation.
use Rattle.std.proofs.Common.{◌≡◌, ◌<◌, Bool, true, false, List, sym, ◌∙◌, subst, arith, length}
use Rattle.std.specs.List.{list_all}
use Rattle.ar_base.specs.Lists.{Stands, IsOneOf}
use Rattle.ar_base.proofs.Standing.{stands_one, stands_within}
use Rattle.domains.specs.declared.Value.{Value}
use Rattle.ar_meaning.specs.Facts.{PassesConditions, HasValue}
use Rattle.ar_meaning.specs.Flows.{IsBrokenAssign}
use Rattle.ar_meaning.specs.Found.{IsAnswer}
use Rattle.ar_meaning.proofs.ByNumber as number
use Rattle.ar_meaning.proofs.Found.{holds, fails}
use Rattle.gts_core.specs.Readings.{IsTotal, value_in, is_met}
use Rattle.gts_core.specs.Sound.{IsSound, IsAssignTo, kind_of_domain}
use Rattle.gts_core.specs.View.{net_of, assign_of, variable_of}
use Rattle.gts_core.specs.declared.system.Assign.{Assign}
use Rattle.gts_core.specs.declared.system.GtsParts.{GtsParts}
use Rattle.gts_core.proofs.Reading.{passes_answer, yielded_value, value_yielded}
use Rattle.gts_core.proofs.Viewing.{variable_there, are_numbered}

module _ (p : GtsParts) (sound : IsSound p) (a : Assign) (one : IsOneOf p.assigns.items a) (t : List Value)
    (total : IsTotal p t) where
  typed : IsAssignTo p false a
  typed = sound.assertions a one

  met : IsAnswer (list_all (is_met t) a.when.items) (PassesConditions (HasValue (net_of p) t) (assign_of a).conditions)
  met = passes_answer p t total a.when.items typed.conditions

  pub not_reached : list_all (is_met t) a.when.items ≡ false → IsBrokenAssign (net_of p) t (assign_of a) → ⊥
  not_reached e h = fails _ _ e met h.passes

  pub target_within : a.target.n < length t
  target_within = let h = stands_within p.variables.items a.target.n typed.variable typed.stands in omega (arith, h, total.long)

  pub broken_answer : list_all (is_met t) a.when.items ≡ true → (v : Value) → v ≡ value_in t a.value → (w : Value)
      → Stands t a.target.n w → (b : Bool) → IsAnswer b (v ≡ w → ⊥)
      → IsAnswer b (IsBrokenAssign (net_of p) t (assign_of a))
  broken_answer e v is w sw true h = record {
    passes = holds _ _ e met;
    value = value_in t a.value;
    yields = value_yielded p t total a.value (kind_of_domain typed.variable.domain) typed.value;
    differs = λ k. h (is ∙ stands_one t a.target.n (value_in t a.value) w
        (number.value_at (net_of p) (are_numbered p) t a.target.n (value_in t a.value) k) sw);
  }
  broken_answer e v is w sw false h = λ k. h (λ i.
      k.differs (number.value_from (net_of p) (are_numbered p) t a.target.n (variable_of a.target.n typed.variable)
      k.value (variable_there p a.target.n typed.variable typed.stands)
      (subst (λ (z : Value). Stands t a.target.n z)
      (sym (yielded_value p t total a.value (kind_of_domain typed.variable.domain) typed.value k.value k.yields
      ∙ sym is ∙ i)) sw)))
