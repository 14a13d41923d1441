use Rattle.job_laws.proofs.Labels.{one_meaning, along_one, one_event}
use Rattle.job_laws.proofs.Scripts.{script_once}
use Rattle.ar_base.proofs.Standing.{along_on}
use Rattle.job_inputs.specs.CutLines.{is_comma}
use Rattle.job_inputs.specs.Lines.{pieces}
use Rattle.job_laws.proofs.Observers.{observer_once, wanted_once, wanted_apart}
use Rattle.job_laws.proofs.word_laws.one_meaning_of_words.Goals as goal

pub returns-clause-one_label : goal.returns-clause-one_label
returns-clause-one_label c = λ x is. one_meaning is

pub returns-clause-one_script : goal.returns-clause-one_script
returns-clause-one_script c = λ x is script a b h k. script_once x is script a b h k

pub returns-clause-one_list_of_events : goal.returns-clause-one_list_of_events
returns-clause-one_list_of_events c = λ x is text events others a b. along_one (λ part m n h k. one_event is part m n h k) a b

pub returns-clause-events_apart : goal.returns-clause-events_apart
returns-clause-events_apart c = λ x text events a u.
    let r = along_on (pieces is_comma text) events a u.is_part.place u.part u.is_part.stands in u.names_none r.0 r.2

pub returns-clause-one_observer : goal.returns-clause-one_observer
returns-clause-one_observer c = λ x is path m n a b. observer_once is path m n a b

pub returns-clause-one_wanted : goal.returns-clause-one_wanted
returns-clause-one_wanted c = λ x is path word m n v w a b. wanted_once is path word m n v w a b

pub returns-clause-one_named : goal.returns-clause-one_named
returns-clause-one_named c = λ x path word n v a none. none n a.names

pub returns-clause-one_asked : goal.returns-clause-one_asked
returns-clause-one_asked c = λ x is path word n v a none. wanted_apart is path word n v a none

pub returns-clause-observers_apart : goal.returns-clause-observers_apart
returns-clause-observers_apart c = λ x path word a none. none a.number a.names
