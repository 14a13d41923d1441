use Rattle.std.proofs.Common.{ℕ, List, None}
use Rattle.std.proofs.lemmas.Result.{IfOk-weaker, IfErr-weaker}
use Rattle.ar_meaning.specs.Systems.{System}
use Rattle.ar_firing.specs.Forest as firing
use Rattle.mode_search.specs.Events.{plain_event_numbers}
use Rattle.mode_trees.specs.Views.{trees_of, number_in}
use Rattle.static_fragment.specs.declared.faults.FragmentFault.{FragmentFault}
use Rattle.static_fragment.specs.declared.faults.FragmentFault.TheVariants.{Outside, Memory}
use Rattle.static_fragment.specs.Recognised.{IsRecognised, IsFragmentRefusal, IsRecognisedUpTo, IsRefusedUpTo}
use Rattle.static_fragment.proofs.recognising.recognise.Goals as goal

-- where every rule is asked it is as without a number of events
recognised : (system : System ℕ) (dropped : List ℕ) (trees : List firing.ModeTree)
    → IsRecognisedUpTo None system dropped trees → IsRecognised system dropped trees
recognised system dropped trees h = record {
  keeps = record { each = λ rule. h.keeps.each rule tt };
  forest = h.forest;
}

refused : (system : System ℕ) (dropped : List ℕ) (fault : FragmentFault) → IsRefusedUpTo None system dropped fault
    → IsFragmentRefusal system dropped fault
refused system dropped (Outside number spot) h = record { rule = h.rule; is_rule = h.is_rule; first = h.first }
refused system dropped Memory h = tt

pub returns-clause-ok : goal.returns-clause-ok
returns-clause-ok c = λ system views.
    let d = plain_event_numbers c.args.dropped.now in
    IfOk-weaker c.recognise_up_to.result
    (λ f. IsRecognisedUpTo None system d (trees_of (number_in c.args.gts.now) f))
    (λ f. IsRecognised system d (trees_of (number_in c.args.gts.now) f))
    (λ f h. recognised system d (trees_of (number_in c.args.gts.now) f) h) (c.recognise_up_to.ensures.ok system views)

pub returns-clause-outside : goal.returns-clause-outside
returns-clause-outside c = λ system views.
    let d = plain_event_numbers c.args.dropped.now in
    IfErr-weaker c.recognise_up_to.result (IsRefusedUpTo None system d) (IsFragmentRefusal system d)
    (λ e h. refused system d e h) (c.recognise_up_to.ensures.outside system views)
