use Rattle.job_laws.proofs.CausesOfJobs.{of_request, of_script, of_list, of_cut_lines, dropping_no_script, of_dropped, table_no_script, of_observer, of_shown, of_value, of_fragment}
use Rattle.std.proofs.Common.{◌+◌}
use Rattle.job_stages.specs.Stages.{line_refused, cut_refused, spot_path}
use Rattle.job_stages.specs.declared.refusals.Refusal.TheVariants.{Size, NoDropped, NoObserver, NoValue, Outside}
use Rattle.ar_firing.specs.Rules.{rule_number}
use Rattle.ar_base.specs.declared.counts.Count.TheVariants as count
use Rattle.job_laws.proofs.causes.wrong_requests_are_told.Goals as goal

pub returns-clause-refused_requests_are_told : goal.returns-clause-refused_requests_are_told
returns-clause-refused_requests_are_told c =
    λ k s asked texts text x r gave known is l i means h.
    c.refusals_are_told.ensures k s asked r gave known is
    (of_request k.files asked texts text l i x means r h)

pub returns-clause-bad_lines_of_scripts_are_told : goal.returns-clause-bad_lines_of_scripts_are_told
returns-clause-bad_lines_of_scripts_are_told c =
    λ k s asked text script x n why gave known is l second means h.
    c.refusals_are_told.ensures k s asked (line_refused why (n + 1)) gave known is
    (of_script k.files asked text script l x means second n why h)

pub returns-clause-bad_line_of_cuts : goal.returns-clause-bad_line_of_cuts
returns-clause-bad_line_of_cuts c =
    λ k s asked text list x n why gave known is l second means h.
    c.refusals_are_told.ensures k s asked (cut_refused why (n + 1)) gave known is
    (of_list k.files asked text list l x means second n why h)

pub returns-clause-too_many_lines_of_cuts : goal.returns-clause-too_many_lines_of_cuts
returns-clause-too_many_lines_of_cuts c =
    λ k s asked text list x cuts gave known is l second means h more.
    c.refusals_are_told.ensures k s asked (Size count.CutLines) gave known is
    (of_cut_lines k.files asked text list l x means second cuts h more)

pub returns-clause-unknown_dropped_events_are_told : goal.returns-clause-unknown_dropped_events_are_told
returns-clause-unknown_dropped_events_are_told c =
    λ k s asked texts text dropped x w gave known is l i means lists drops h.
    c.refusals_are_told.ensures k s asked NoDropped gave known is
    (of_dropped k.files asked texts text l i x means (dropping_no_script k.words asked dropped is drops)
    w lists dropped drops h)

pub returns-clause-unknown_observer_asked : goal.returns-clause-unknown_observer_asked
returns-clause-unknown_observer_asked c =
    λ k s asked texts text path x w v gave known is l i means lists drops table sought h.
    c.refusals_are_told.ensures k s asked NoObserver gave known is
    (of_observer k.files asked texts text l i x means (table_no_script asked.job.command table)
    w lists v drops table path sought h)

pub returns-clause-unknown_observer_shown : goal.returns-clause-unknown_observer_shown
returns-clause-unknown_observer_shown c =
    λ k s asked text script path x commands gave known is l explains means gives sought h.
    c.refusals_are_told.ensures k s asked NoObserver gave known is
    (of_shown k.files asked text script l x means k.words is explains commands gives path sought h)

pub returns-clause-unknown_values_are_told : goal.returns-clause-unknown_values_are_told
returns-clause-unknown_values_are_told c =
    λ k s asked texts text path x w v gave known is l i means lists drops table sought h.
    c.refusals_are_told.ensures k s asked NoValue gave known is
    (of_value k.files asked texts text l i x means (table_no_script asked.job.command table) w lists v drops table path sought h)

pub returns-clause-systems_outside_are_told : goal.returns-clause-systems_outside_are_told
returns-clause-systems_outside_are_told c =
    λ k s asked texts text x w rule spot gave known is l i means asks static q h.
    c.refusals_are_told.ensures k s asked (Outside (rule_number rule) (spot_path x spot)) gave known is
    (of_fragment k.files asked texts text l i x means w asks static rule spot q h)
