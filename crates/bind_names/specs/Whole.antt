-- What the test of the rules of names, kinds, values and targets answers, and what it is that bound forms are those of
-- units.
use Rattle.std.specs.Prelude.{List, Result, Ok, Err}
use Rattle.ar_base.specs.Breach.{IsBroken, AreKept}
use Rattle.ar_base.specs.declared.faults.RuleFault.{RuleFault}
use Rattle.ar_base.specs.declared.faults.RuleFault.TheVariants.{Rule, Limit, Memory}
use Rattle.hierarchy.specs.Models.{RootedModel}
use Rattle.hierarchy.specs.Units.{UnitPath}
use Rattle.source_meaning.specs.Binding.{IsBoundFrom}
use Rattle.source_meaning.specs.Rules.{BreaksNameRule, name_rules}
use Rattle.source_meaning.specs.SoundBound.{IsSoundBound}
use Rattle.source_meaning.specs.Systems.{Declarations, AreOf}
use Rattle.source_meaning.specs.declared.bound.Bound.{Bound}
use Rattle.bind_scopes.specs.declared.scopes.Scopes.{Scopes}
use Rattle.bind_names.specs.Settled.{AreSettled}
use Rattle.bind_names.specs.declared.all_values.Values.{Values}

-- the units keep the rules, and these are the values of their parameters and variables
pub record KeepsNames (m : RootedModel) (units : List UnitPath) (scopes : Scopes) (values : Values) : Type 0 where
  pub settled : AreSettled m units scopes values
  pub kept : AreKept name_rules (BreaksNameRule m units)

-- the values, where the rules are kept, or the least rule that is broken with its earliest place; no limit is told
abbrev pub AnswersRules : RootedModel → List UnitPath → Scopes → Result Values RuleFault → Type 0
AnswersRules m units scopes (Ok values) = KeepsNames m units scopes values
AnswersRules m units scopes (Err (Rule r p)) = IsBroken name_rules (BreaksNameRule m units) r p
AnswersRules m units scopes (Err (Limit count)) = ⊥
AnswersRules m units scopes (Err Memory) = Unit {0}

-- the bound forms are those of what the units declare, and sound
pub record IsBoundOf (m : RootedModel) (units : List UnitPath) (b : Bound) : Type 0 where
  pub declarations : Declarations
  pub are : AreOf m units declarations
  pub bound : IsBoundFrom declarations b
  pub sound : IsSoundBound b
