use Rattle.sync_expand.proofs.ByNumber.{keyed_of, stands_by}
use Rattle.sync_expand.proofs.DeclaredLemmas.{declared_key}
use Rattle.sync_expand.proofs.Existing.{kept_ways}
use Rattle.sync_expand.proofs.Meaning.{ways_one, way_means, plan_resolved}
use Rattle.sync_expand.proofs.WaysLemmas.{are_counts, parts_total}
use Rattle.sync_expand.proofs.laws.expansion_laws.Goals as goal

pub returns-clause-one_expansion : goal.returns-clause-one_expansion
returns-clause-one_expansion g c = λ events b v w are be. ways_one events (keyed_of events b) are be

pub returns-clause-some_expansion : goal.returns-clause-some_expansion
returns-clause-some_expansion g c = λ events sound keeps. kept_ways events sound keeps

pub returns-clause-numbered_expansion : goal.returns-clause-numbered_expansion
returns-clause-numbered_expansion g c = λ events. record { numbered = declared_key events }

pub returns-clause-counted_ways : goal.returns-clause-counted_ways
returns-clause-counted_ways g c = λ events b ways are. are_counts events (keyed_of events b) b.numbered ways are

pub returns-clause-counted_parts : goal.returns-clause-counted_parts
returns-clause-counted_parts g c = λ events b ways are. parts_total events (keyed_of events b) b.numbered ways are

pub returns-clause-planned_ways_stand : goal.returns-clause-planned_ways_stand
returns-clause-planned_ways_stand g c = λ events b ways are e k ts t s u. way_means events (keyed_of events b) b.numbered ways are t
    e k ts s u

pub returns-clause-planned_bodies : goal.returns-clause-planned_bodies
returns-clause-planned_bodies g c = λ events b counts. plan_resolved events counts events (stands_by events b)
