-- Units that are within the limits and keep the rules, as the stages find them.
use Rattle.std.specs.Prelude.{◌≡◌, ◌≤◌, List, length, Result}
use Rattle.ar_base.specs.Breach.{AreKept}
use Rattle.ar_base.specs.Counts.{limit_of}
use Rattle.ar_base.specs.Stages.{Keeps}
use Rattle.ar_base.specs.StagesInside.{Meets}
use Rattle.ar_base.specs.declared.counts.Count.TheVariants.{Units, Variables, Events}
use Rattle.ar_base.specs.declared.faults.RuleFault.{RuleFault}
use Rattle.class_table.specs.declared.tables.Classes.{Classes}
use Rattle.hierarchy.specs.Models.{RootedModel}
use Rattle.hierarchy.specs.Units.{UnitPath}
use Rattle.hierarchy.specs.Listing.{Unfolded, variables, events}
use Rattle.hierarchy.specs.Tie.{AreOutlines}
use Rattle.unit_walks.specs.Settling.{AreOutcomes}
use Rattle.instantiate.specs.Unfolding.{unit_rules, unit_breaks}
use Rattle.instantiate.specs.declared.listing.Settled.{Settled}

-- the answer of a call that tests the rules on these units
abbrev pub AnswersUnitRules : {X : Type 0} → RootedModel → List UnitPath → Result X RuleFault → Type 0
AnswersUnitRules m units answer = let t : Unfolded = record { model = m; units = units } in Meets (Keeps unit_rules unit_breaks) (λ u x. u ≡ t) t answer

-- the outlines and what the names lead to are those of these units, which are within the limits and keep the rules
pub record IsSettled (classes : Classes) (t : Unfolded) (s : Settled) : Type 0 where
  pub outlines : AreOutlines t.model t.units classes s.outlines.items
  pub outcomes : AreOutcomes t.model t.units s.walks
  pub units_few : length t.units ≤ limit_of Units
  pub variables_few : length (variables t.model t.units) ≤ limit_of Variables
  pub events_few : length (events t.model t.units) ≤ limit_of Events
  pub kept : AreKept unit_rules (unit_breaks t)
