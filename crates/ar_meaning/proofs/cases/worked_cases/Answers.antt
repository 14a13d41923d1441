use Rattle.ar_meaning.proofs.Worked.{follows, ring_on, ring_off, two_values, may, none_may, must}
use Rattle.ar_meaning.proofs.cases.worked_cases.Goals as goal

pub returns-clause-follows : goal.returns-clause-follows
returns-clause-follows c = follows

pub returns-clause-ring_on : goal.returns-clause-ring_on
returns-clause-ring_on c = ring_on

pub returns-clause-ring_off : goal.returns-clause-ring_off
returns-clause-ring_off c = ring_off

pub returns-clause-two_values : goal.returns-clause-two_values
returns-clause-two_values c = two_values

pub returns-clause-may : goal.returns-clause-may
returns-clause-may c = may

pub returns-clause-none_may : goal.returns-clause-none_may
returns-clause-none_may c = none_may

pub returns-clause-must : goal.returns-clause-must
returns-clause-must c = must
