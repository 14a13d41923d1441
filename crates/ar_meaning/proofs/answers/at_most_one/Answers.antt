use Rattle.ar_meaning.proofs.OneAnswer.{flows_same, step_same}
use Rattle.ar_meaning.proofs.OneRun.{runs_same, ways_same, means_same, events_same}
use Rattle.std.proofs.Common.{sym, subst}
use Rattle.ar_meaning.specs.TraceText.{TraceText}
use Rattle.ar_meaning.proofs.OneText.{trace_one}
use Rattle.ar_meaning.proofs.answers.at_most_one.Goals as goal

pub returns-clause-one_outcome : goal.returns-clause-one_outcome
returns-clause-one_outcome g c = λ net t o p f h. flows_same net f h

pub returns-clause-one_answer : goal.returns-clause-one_answer
returns-clause-one_answer g c = λ net t w a b s h. step_same net s h

pub returns-clause-one_run : goal.returns-clause-one_run
returns-clause-one_run g c = λ sys cs ms ns r h. runs_same sys r h

pub returns-clause-one_list_of_ways : goal.returns-clause-one_list_of_ways
returns-clause-one_list_of_ways g c = λ events keyed e ts us w h. ways_same events keyed w h

pub returns-clause-one_way_of_number : goal.returns-clause-one_way_of_number
returns-clause-one_way_of_number g c = λ bodies n t u m h. means_same bodies m h

pub returns-clause-one_list_of_events : goal.returns-clause-one_list_of_events
returns-clause-one_list_of_events g c = λ events keyed es fs a b. events_same events keyed a b

pub returns-clause-one_text : goal.returns-clause-one_text
returns-clause-one_text g c = λ names sys keyed ms a b d e. trace_one names sys keyed d e

pub returns-clause-one_text_of_commands : goal.returns-clause-one_text_of_commands
returns-clause-one_text_of_commands g c =
    λ names sys keyed cs ms ns a b r q d e. trace_one names sys keyed d
    (subst (λ z. TraceText names sys z b) (sym (runs_same sys r q)) e)
