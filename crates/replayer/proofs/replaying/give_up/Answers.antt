use Rattle.std.proofs.Common.{◌∙◌, Err, ap, subst}
use Rattle.std.proofs.lemmas.Result.{err_from_is_err_and}
use Rattle.flow_propagate.specs.Answers.{fault_of}
use Rattle.flow_propagate.specs.declared.propagation.PropagateFault.{PropagateFault}
use Rattle.gts_core.specs.View.{net_of}
use Rattle.stepper.specs.Steps.{IsStartFault}
use Rattle.text_pieces.proofs.Ranges.{flows_inside}
use Rattle.replayer.proofs.PlayLemmas.{no_start_whole, no_start_cut, no_memory, replay_as}
use Rattle.replayer.proofs.replaying.give_up.Goals as goal

pub not_started-requires : goal.not_started-requires
not_started-requires g c =
    let p = c.args.gts.now in
    let fails = subst (λ (f : PropagateFault). IsStartFault (net_of p) f) c.in-Flow.is c.requires.fault in
    flows_inside p _ c.in-Flow.flow fails

pub returns-in_err-not_started-in-Flow : goal.returns-in_err-not_started-in-Flow
returns-in_err-not_started-in-Flow g c = λ system views commands fires.
    let p = c.args.gts.now in
    let fails = subst (λ (f : PropagateFault). IsStartFault (net_of p) f) c.in-Flow.is c.requires.fault in
    let r = err_from_is_err_and c.from_residual.result c.from_residual.ensures.1 in
    replay_as (r.1 ∙ ap Err r.2) (no_start_cut p c.requires.sound system views (fault_of c.in-Flow.flow) commands fails
    c.in_err-not_started-in-Flow.ensures)

pub returns-in_ok-not_started-in-Flow : goal.returns-in_ok-not_started-in-Flow
returns-in_ok-not_started-in-Flow g c = λ system views commands fires.
    let p = c.args.gts.now in
    let fails = subst (λ (f : PropagateFault). IsStartFault (net_of p) f) c.in-Flow.is c.requires.fault in
    no_start_whole p c.requires.sound system views (fault_of c.in-Flow.flow) commands fails
    c.in_ok-not_started-in-Flow.ensures

pub returns-in-Memory : goal.returns-in-Memory
returns-in-Memory g c = λ system views commands fires.
    no_memory c.args.gts.now c.requires.sound system views commands fires _
