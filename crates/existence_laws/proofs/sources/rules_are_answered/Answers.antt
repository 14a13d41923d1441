use Rattle.instantiate.specs.Unfolding.{unit_rules, unit_breaks}
use Rattle.source_meaning.specs.Rules.{name_rules}
use Rattle.source_meaning.specs.Systems.{name_breaks}
use Rattle.sync_expand.specs.Counting.{way_rules}
use Rattle.gts_flatten.specs.Elaborating.{BreaksWayRule}
use Rattle.existence_laws.proofs.Chain.{limits_answered}
use Rattle.existence_laws.proofs.Stages.{keeps_answered}
use Rattle.existence_laws.proofs.System.{system_of}
use Rattle.existence_laws.proofs.Units.{unfolds_some}
use Rattle.existence_laws.proofs.sources.rules_are_answered.Goals as goal

pub returns-clause-limits : goal.returns-clause-limits
returns-clause-limits c = limits_answered

pub returns-clause-unit_rules : goal.returns-clause-unit_rules
returns-clause-unit_rules c = λ t. keeps_answered unit_rules unit_breaks t

pub returns-clause-name_rules : goal.returns-clause-name_rules
returns-clause-name_rules c = λ t. keeps_answered name_rules name_breaks t

pub returns-clause-way_rules : goal.returns-clause-way_rules
returns-clause-way_rules c = λ d. keeps_answered way_rules BreaksWayRule d

pub returns-clause-units : goal.returns-clause-units
returns-clause-units c = unfolds_some

pub returns-clause-systems : goal.returns-clause-systems
returns-clause-systems c = system_of
