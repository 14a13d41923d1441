-- The stages of the unfolding, joined.
use Rattle.std.proofs.Common.{◌≡◌, ◌≤◌, List, length, Result, Ok, Err, sym, ◌∙◌, ap, subst}
use Rattle.ar_base.specs.Breach.{AreKept}
use Rattle.ar_base.specs.Counts.{limit_of}
use Rattle.ar_base.specs.Stages.{Then, passes, fits, Keeps, kept}
use Rattle.ar_base.specs.StagesInside.{Meets, rule_told}
use Rattle.ar_base.specs.declared.counts.Count.TheVariants.{Variables, Events}
use Rattle.ar_base.specs.declared.faults.RuleFault.{RuleFault}
use Rattle.ar_base.proofs.Stages.{stage_stops, stage_passes}
use Rattle.class_table.specs.declared.tables.Classes.{Classes}
use Rattle.hierarchy.specs.Models.{RootedModel}
use Rattle.hierarchy.specs.ModelsInside.{IsKeptTable}
use Rattle.hierarchy.specs.Units.{UnitPath}
use Rattle.hierarchy.specs.Listing.{Unfolded, variables, events}
use Rattle.hierarchy.specs.Tie.{AreOutlines}
use Rattle.unit_walks.specs.Growing.{IsUnfolded}
use Rattle.unit_walks.specs.Settling.{AreOutcomes}
use Rattle.unit_walks.specs.Unfolding.{Unfolds, whole}
use Rattle.unit_walks.specs.UnfoldingInside.{RefusesUnits, limit, memory}
use Rattle.unit_walks.specs.declared.growing.Unfolded.{Unfolded as Found}
use Rattle.unit_rules.specs.Limits.{FitsLimits}
use Rattle.unit_rules.specs.LimitsInside.{AnswersLimits}
use Rattle.hierarchy.specs.declared.tree.Tree.{Tree}
use Rattle.instantiate.specs.Values.{KeepsDeclarations}
use Rattle.instantiate.specs.Unfolding.{Instantiates, unit_rules, unit_breaks, l8}
use Rattle.instantiate.specs.MadeTrees.{IsTreeFor}
use Rattle.instantiate.proofs.Ruled.{rule8}
use Rattle.instantiate.specs.Settled.{AnswersUnitRules, IsSettled}
use Rattle.instantiate.specs.declared.listing.Settled.{Settled}

-- the model with its units
abbrev pub tree : RootedModel → List UnitPath → Unfolded
tree m units = record { model = m; units = units }

-- the stages behind the units
abbrev pub Behind : Unfolded → Result Unfolded RuleFault → Type 0
Behind = Then FitsLimits (Keeps unit_rules unit_breaks)

module _ (m : RootedModel) {X : Type 0} (see : Unfolded → X → Type 0) where
  -- the units are refused
  pub units_stop : (r : Result X RuleFault) (d e : RuleFault) → r ≡ Err d → d ≡ e → RefusesUnits m e
      → Meets Instantiates see m r
  units_stop r d e i j h = stage_stops {X = X} rule_told Unfolds Behind m see see r d e i j (go e h)
    where
      go : (e : RuleFault) → RefusesUnits m e → Meets {X = X} Unfolds see m (Err e)
      go e (limit h) = h
      go e memory = tt

  module _ (classes : Classes) (found : Found) (units : List UnitPath) (u : IsUnfolded m units found) where
    -- they pass
    pub units_pass : (r : Result X RuleFault) → Meets Behind see (tree m units) r → Meets Instantiates see m r
    units_pass r h = stage_passes {X = X} rule_told Unfolds Behind m see see (tree m units) r
        (whole u.are_units u.shallow u.few) h

    -- the limits refuse
    pub limits_stop : (r : Result X RuleFault) (d e : RuleFault) → r ≡ Err d → d ≡ e
        → AnswersLimits {X = Unit {0}} m units (Err e) → Meets Instantiates see m r
    limits_stop r d e i j h = units_pass r
        (stage_stops {X = Unit {0}} rule_told FitsLimits (Keeps unit_rules unit_breaks) (tree m units)
        (λ u x. u ≡ tree m units) see r d e i j h)

    -- they pass
    pub limits_pass : (r : Result X RuleFault) (x : Unit {0}) → AnswersLimits {X = Unit {0}} m units (Ok x)
        → Meets (Keeps unit_rules unit_breaks) see (tree m units) r → Meets Instantiates see m r
    limits_pass r x h k = units_pass r
        (stage_passes {X = X} rule_told FitsLimits (Keeps unit_rules unit_breaks) (tree m units) see see (tree m units)
        r
        (subst (λ (t : Unfolded). FitsLimits (tree m units) (Ok t)) h.2 h.1) k)

    -- the rules refuse
    pub rules_stop : (r : Result X RuleFault) (d e : RuleFault) (x : Unit {0}) → r ≡ Err d → d ≡ e
        → AnswersLimits {X = Unit {0}} m units (Ok x) → AnswersUnitRules {X = Unit {0}} m units (Err e)
        → Meets Instantiates see m r
    rules_stop r d e x i j h k = limits_pass r x h
        (subst (λ (z : Result X RuleFault). Meets (Keeps unit_rules unit_breaks) see (tree m units) z)
        (sym (i ∙ ap Err j)) k)

-- the counts that are within their limits
within : (t u : Unfolded) → FitsLimits t (Ok u)
    → (length (variables t.model t.units) ≤ limit_of Variables) × (length (events t.model t.units) ≤ limit_of Events)
within t u (passes b (fits v) (passes c (fits e) k)) = (v, e)

-- units that keep the rules
rules_kept : (t u : Unfolded) → Keeps unit_rules unit_breaks t (Ok u) → AreKept unit_rules (unit_breaks t)
rules_kept t u (kept k) = k

module _ (m : RootedModel) (classes : Classes) (table : IsKeptTable m classes) (units : List UnitPath) where
  -- the outlines of the units
  pub outlines_of : (found : Found) → IsUnfolded m units found → AreOutlines m units classes found.outlines.items
  outlines_of found u = record { table = table; are_units = u.are_units; along = u.outlines }

  -- all stages pass
  pub settled : (found : Found) (s : Settled) (x y : Unit {0}) → IsUnfolded m units found → s.outlines ≡ found.outlines
      → AreOutcomes m units s.walks
      → AnswersLimits {X = Unit {0}} m units (Ok x) → AnswersUnitRules {X = Unit {0}} m units (Ok y)
      → Meets Instantiates (IsSettled classes) m (Ok s)
  settled found s x y u o w h k =
      let few = within (tree m units) h.0 h.1 in
      limits_pass m (IsSettled classes) classes found units u (Ok s) x h (
        tree m units,
        subst (λ (t : Unfolded). Keeps unit_rules unit_breaks (tree m units) (Ok t)) k.2 k.1,
        record {
          outlines = rw o (outlines_of found u);
          outcomes = w;
          units_few = u.few;
          variables_few = few.0;
          events_few = few.1;
          kept = rules_kept (tree m units) k.0 k.1;
        },
      )

-- what is refused before the tree is made is refused
pub refused_so : (m : RootedModel) (classes : Classes) (r : Result Tree RuleFault) (d e : RuleFault) → r ≡ Err d → d ≡ e
    → Meets Instantiates (IsSettled classes) m (Err e) → Meets Instantiates IsTreeFor m r
refused_so m classes r d e i j h = subst (λ (z : Result Tree RuleFault). Meets Instantiates IsTreeFor m z)
    (sym (i ∙ ap Err j)) h

-- units that keep the rules have no declaration of variables that is wrong
pub declarations_kept : (t : Unfolded) → AreKept unit_rules (unit_breaks t) → KeepsDeclarations t.model t.units
declarations_kept t k = record { kept = λ p b. k.kept 8 p rule8 (l8 b) }
