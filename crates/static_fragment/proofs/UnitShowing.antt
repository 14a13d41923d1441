-- The first event, unit, flow or observer that a rule is shown with.
use Rattle.std.proofs.Common.{ℕ, Bool, List, Option, Some, arith}
use Rattle.ar_base.specs.Numbers.{VarId}
use Rattle.ar_meaning.specs.Systems.{System}
use Rattle.ar_firing.specs.Rules.{BreaksS1, BreaksS2, BreaksS7, ObserverBreaksS7, Spot, AtEvent, AtUnit, AtVariable, AtObserver, IsShownBefore, events, units, variables, observers, variable_first, S1, S2, S7, BreaksStaticRule, s1, s2, s7, s7_observer}
use Rattle.gts_core.specs.View.{Views}
use Rattle.gts_core.specs.Sound.{IsSound}
use Rattle.gts_core.specs.declared.system.GtsParts.{GtsParts}
use Rattle.mode_search.specs.Events.{IsLeastNumber, IsJointAt, IsStateless}
use Rattle.mode_search.specs.Wide.{IsFirstWide}
use Rattle.mode_search.specs.declared.searches.Wide.{Wide}
use Rattle.mode_search.specs.declared.searches.Wide.TheVariants as wide
use Rattle.static_fragment.specs.Units.{AreUnitMarks}
use Rattle.static_fragment.specs.UnitShown.{IsFirstShown, spot_of_wide}
use Rattle.static_fragment.proofs.Units.{joint_breaks, breaks_joint, stateless_breaks, breaks_stateless}
use Rattle.static_fragment.proofs.Values.{flow_breaks, breaks_flow, observer_breaks, breaks_observer}

module _ (p : GtsParts) (system : System ℕ) (views : Views p system) (dropped : List ℕ) where
  -- what each rule is shown with
  s1_of : {n : ℕ} → BreaksStaticRule system dropped S1 (AtEvent n) → BreaksS1 system n
  s1_of (s1 b) = b

  s2_of : {n : ℕ} → BreaksStaticRule system dropped S2 (AtUnit n) → BreaksS2 system dropped n
  s2_of (s2 b) = b

  s7_of : {n : ℕ} → BreaksStaticRule system dropped S7 (AtVariable n) → BreaksS7 system n
  s7_of (s7 b) = b

  s7_observer_of : {n : ℕ} → BreaksStaticRule system dropped S7 (AtObserver n) → ObserverBreaksS7 system n
  s7_observer_of (s7_observer b) = b

  pub first_joint_shown : (n : ℕ) → IsLeastNumber (IsJointAt p) (Some n) → IsFirstShown system dropped S1 (AtEvent n)
  first_joint_shown n h = record { breaks = s1 (joint_breaks p system views n h.0); is_first = λ o l b. before l b }
    where
      before : {other : Spot} → IsShownBefore other (AtEvent n) → BreaksStaticRule system dropped S1 other → ⊥
      before (events {m = k} l) b = let q = h.1 k (breaks_joint p system views k (s1_of b)) in absurd (omega (arith, l, q))

  pub first_stateless_shown : IsSound p → (marks moving : List Bool) (firsts : List (Option VarId))
      → AreUnitMarks p dropped marks moving firsts → (n : ℕ) → IsLeastNumber (IsStateless moving firsts) (Some n)
      → IsFirstShown system dropped S2 (AtUnit n)
  first_stateless_shown sound marks moving firsts u n h = record {
    breaks = s2 (stateless_breaks p system views sound dropped marks moving firsts u n h.0);
    is_first = λ o l b. before l b;
  }
    where
      before : {other : Spot} → IsShownBefore other (AtUnit n) → BreaksStaticRule system dropped S2 other → ⊥
      before (units {m = k} l) b =
          let q = h.1 k (breaks_stateless p system views sound dropped marks moving firsts u k (s2_of b)) in
          absurd (omega (arith, l, q))

  pub first_wide_shown : IsSound p → (found : Wide) → IsFirstWide p (Some found)
      → IsFirstShown system dropped S7 (spot_of_wide found)
  first_wide_shown sound (wide.Flow n) h = record {
    breaks = s7 (flow_breaks p system views sound h.0.0 n h.0.1);
    is_first = λ o l b. before l b;
  }
    where
      before : {other : Spot} → IsShownBefore other (AtVariable n) → BreaksStaticRule system dropped S7 other → ⊥
      before (variables {m = k} l) b =
          let w = breaks_flow p system views k (s7_of b) in
          let q = h.1 w.0 k w.1 in
          absurd (omega (arith, l, q))
  first_wide_shown sound (wide.Observer n) h = record {
    breaks = s7_observer (observer_breaks p system views n h.1);
    is_first = λ o l b. before l b;
  }
    where
      before : {other : Spot} → IsShownBefore other (AtObserver n) → BreaksStaticRule system dropped S7 other → ⊥
      before (observers {m = k} l) b =
          let q = h.2 k (breaks_observer p system views k (s7_observer_of b)) in
          absurd (omega (arith, l, q))
      before (variable_first {m = k}) b =
          let w = breaks_flow p system views k (s7_of b) in
          h.0 w.0 k w.1
